-- The numbers of the refusals, in the order of document 01's table (section 5), with those of document 02. The definitions take them from here. The code has the same numbers as
-- constants (src/refusal.rt), and the contracts hold them to these: a call that refused with another number would not meet its own.
use Rattle.std.specs.Prelude.{ℕ}

abbrev pub refusal_size : ℕ
refusal_size = 1

abbrev pub refusal_length : ℕ
refusal_length = 2

abbrev pub refusal_gaps : ℕ
refusal_gaps = 3

abbrev pub refusal_directions : ℕ
refusal_directions = 4

abbrev pub refusal_mode : ℕ
refusal_mode = 5

abbrev pub refusal_input : ℕ
refusal_input = 6

abbrev pub refusal_result : ℕ
refusal_result = 7

abbrev pub refusal_work : ℕ
refusal_work = 8

abbrev pub refusal_reading : ℕ
refusal_reading = 9

abbrev pub refusal_correction : ℕ
refusal_correction = 10

abbrev pub refusal_place : ℕ
refusal_place = 11

abbrev pub refusal_no_path : ℕ
refusal_no_path = 12

-- a line of a text, and a text or a plate of the program that is too large
abbrev pub refusal_line : ℕ
refusal_line = 13

abbrev pub refusal_large : ℕ
refusal_large = 14

-- document 02, N3: the book is full, its serial numbers are spent, no entry has the serial number
abbrev pub refusal_full : ℕ
refusal_full = 15

abbrev pub refusal_spent : ℕ
refusal_spent = 16

abbrev pub refusal_no_entry : ℕ
refusal_no_entry = 17

-- document 02, N5
abbrev pub refusal_ends : ℕ
refusal_ends = 18

-- document 02, N6: a number that the lamp meter may not report
abbrev pub refusal_figure : ℕ
refusal_figure = 19

-- document 02, N7: a pixel whose lowest level is above its highest
abbrev pub refusal_bounds : ℕ
refusal_bounds = 20
