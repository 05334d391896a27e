-- How large R has to be: what each law needs, by the limits of the paper. A frame for smaller sheets changes these numbers.
use Rattle.std.specs.Prelude.{ℕ}

-- ends: a frame point's n is 8,000,000 at most
abbrev pub ends_need : ℕ
ends_need = 8000000

-- an end against a side: two such n
abbrev pub meet_need : ℕ
meet_need = 16000000

-- crossing: a standard point's n
abbrev pub crossing_need : ℕ
crossing_need = 64000000000

-- order, and equal numbers with it: a frame point's R - 8,000,000 against its w times a standard point's n, 4,000 times 64,000,000,000. At
-- this R itself (0, 64000000000, 0, 0, 1) and (1, -8000000, -4000, 0, 4000) have the same x
abbrev pub order_need : ℕ
order_need = 256000008000000

-- side: of the frame, n of a standard point; of p and q within 2,000, d n and w k of a frame point, each 4,000 times 8,000,000. At this R
-- itself (0, -64000000000, 0, 0, 1) is on side 1, and its sign is 1
abbrev pub side_need : ℕ
side_need = 64000000000

-- turn: six products of w, n and n of narrow points
abbrev pub turn_need : ℕ
turn_need = 1536000000000000000
