-- The limits of document 01 and of document 02, each named once. REACH, MOST and LAST_TAG are the object type's own, and contracts tie them to
-- these by a bracket.
use Rattle.std.specs.Prelude.{ℕ, ℤ, pos}

-- "each coordinate is from -2,000 to 2,000, both included"
abbrev pub reach_size : ℕ
reach_size = 2000

abbrev pub reach : ℤ
reach = pos reach_size

-- "A sheet has 0 to 512 objects"
abbrev pub most : ℕ
most = 512

-- "a tag from 0 to 2,000,000" (document 02)
abbrev pub last_tag : ℤ
last_tag = pos 2000000

-- "Standard: .. w at most 32,000,000, nx and ny within 64,000,000,000 either way"
abbrev pub standard_w_size : ℕ
standard_w_size = 32000000

abbrev pub standard_w : ℤ
standard_w = pos standard_w_size

abbrev pub standard_n_size : ℕ
standard_n_size = 64000000000

abbrev pub standard_n : ℤ
standard_n = pos standard_n_size

-- "Frame: w at most 4,000. .. Each n is within 8,000,000 either way", and the same for narrow points
abbrev pub frame_w : ℤ
frame_w = pos 4000

abbrev pub frame_n : ℤ
frame_n = pos 8000000
