-- Document 02, N2, sieving twice, which by N5 is about `ends` 0: "For equal k, equal ways and equal mode, with k below both lengths, filtering by K and then by L, or by L and then
-- by K, shall be shown to equal one filtering by the larger." proofs/SievingTwice.antt shows it of every size and every plate of 16-bit levels. In the
-- field's words the filters of all lengths are a granulometry, and this is its absorption law.
use Rattle.std.specs.Prelude.{ℕ, ◌<◌, max, ◌≡◌, List, ℤ}
use Rattle.plate.specs.Opening.{filtered}
use Rattle.plate.specs.declared.setting.Setting.{Setting}

-- the setting with another length: equal k, equal ways and equal mode, and the same `ends`
abbrev pub with_length : Setting → ℕ → Setting
with_length s L = record { length = L; gaps = s.gaps; directions = s.directions; mode = s.mode; ends = s.ends }

-- two lengths that the law is about: ".. with k below both lengths"; "N2 .. [is] about 0" (N5)
pub record Sieves (s : Setting) (K L : ℕ) : Type 0 where
  pub below_K : s.gaps < K
  pub below_L : s.gaps < L
  pub free_ends : s.ends ≡ 0

module _ (s : Setting) (W H : ℕ) where
  -- one filtering by the length L
  abbrev pub filtered_by : ℕ → List ℤ → List ℤ
  filtered_by L f = filtered (with_length s L) W H f

  pub record SievedTwice (K L : ℕ) (f : List ℤ) : Type 0 where
    -- "filtering by K and then by L .. equal one filtering by the larger"
    pub K_then_L : filtered_by L (filtered_by K f) ≡ filtered_by (max K L) f
    -- ".. or by L and then by K .."
    pub L_then_K : filtered_by K (filtered_by L f) ≡ filtered_by (max K L) f
