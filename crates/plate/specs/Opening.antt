-- Document 01, section 3: opening and closing. The definition is that of source 001, sections 3 and 4, on grey levels: at most k pixels of a
-- path lie below the level, and a pixel never rises above its own. With `ends` 1 (document 02, N5) the two ends of a path are none of those k.
use Rattle.std.specs.Prelude.{ℕ, zero, suc, ◌+◌, Bool, true, false, cond, not, ◌&&◌, ◌||◌, List, [], ◌∷◌, map, leb, eqb, get_or, ℤ}
use Rattle.std.specs.Int.Signed.{lt_z}
use Rattle.basics.specs.Lists.{any}
use Rattle.plate.specs.Levels.{lowest, level, key, mirror}
use Rattle.plate.specs.Paths.{places, paths, through, ends_of}
use Rattle.plate.specs.declared.setting.Setting.{Setting}

-- the level of a plate at a place
abbrev pub level_at : List ℤ → ℕ → ℤ
level_at f p = get_or f p lowest

-- how many pixels of a path are below the level t
unfoldable pub below : List ℤ → ℤ → List ℕ → ℕ
below f t [] = 0
below f t (p ∷ path) = cond (lt_z (level_at f p) t) 1 0 + below f t path

-- a path counts at the level t: at most k of its pixels are below t; and, with `ends` 1, neither of its two end pixels is
unfoldable pub admits : Setting → List ℤ → ℤ → List ℕ → Bool
admits s f t path = leb (below f t path) s.gaps && (not (eqb s.ends 1) || eqb (below f t (ends_of path)) 0)

-- does one of these paths go through x and count at t?
unfoldable pub kept : Setting → List (List ℕ) → List ℤ → ℕ → ℤ → Bool
kept s ps f x t = any (λ path. through x path && admits s f t path) ps

-- the greatest number up to n that passes the test, 0 where none does
unfoldable pub greatest : (ℕ → Bool) → ℕ → ℕ
greatest test zero = zero
greatest test (suc n) = elim (test (suc n)) [ true ↦ suc n | false ↦ greatest test n ]

-- the highest level, not above v, that passes the test; the lowest level where none does
unfoldable pub highest : (ℤ → Bool) → ℤ → ℤ
highest test v = level (greatest (λ n. test (level n)) (key v))

-- the opened level at x: the highest t, not above the pixel's own, at which a path of length L through x in a chosen direction counts
unfoldable pub opened_at : Setting → ℕ → ℕ → List ℤ → ℕ → ℤ
opened_at s W H f x =
    let ps = paths W H s.directions s.length in highest (kept s ps f x) (level_at f x)

-- mode 0
unfoldable pub opened : Setting → ℕ → ℕ → List ℤ → List ℤ
opened s W H f = map (opened_at s W H f) (places W H)

-- mode 1: mirror every level, open, mirror back
unfoldable pub closed : Setting → ℕ → ℕ → List ℤ → List ℤ
closed s W H f = map mirror (opened s W H (map mirror f))

unfoldable pub filtered : Setting → ℕ → ℕ → List ℤ → List ℤ
filtered s W H f = cond (eqb s.mode 0) (opened s W H f) (closed s W H f)
