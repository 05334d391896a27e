-- Coordinates and points, counted from a start, written and read again, and back. To cite:
--   back, near_within, stored-small   from a start and back; a coordinate, and what is stored for one, is small
--   coordinate-back, coordinate-from   a coordinate
--   InReach, point-back, point-from       a point, and that it is within the limits
--   near-nought, near-origin   p and q are counted from within the limits
-- Assumes nothing.
use Rattle.std.specs.Prelude.{◌≡◌, refl, false, List, [], ◌∷◌, ◌++◌, ℕ, ◌+◌, ◌*◌, ◌≤◌, ℤ, pos, ◌+ℤ◌, ◌-ℤ◌}
use Rattle.std.proofs.Common.{sym, ap, ◌∙◌, append_assoc, arith}
use Rattle.whole.specs.Reify.{reify, reading, solve}
use Rattle.whole.specs.Within.{Within}
use Rattle.whole.specs.Bound.{w-intro, w-sub}
use Rattle.sheet.specs.Limits.{reach_size}
use Rattle.sheet.specs.Figure.{vec, Vec}
use Rattle.sheet.specs.Refusal.{beyond}
use Rattle.sheet.specs.Flags.{flags}
use Rattle.number.specs.Number.{write_number, zigzag, Reading, got, next, checked, unzigzag, Bytes}
use Rattle.number.proofs.TripLaws.{behind-bytes, From, from, not, from-checked, number-back, number-from}
use Rattle.number.specs.ZigzagLaws.{unzigzag-zigzag, zigzag-unzigzag, zigzag-small}
use Rattle.store.specs.declared.Form.{Form}
use Rattle.store.specs.Forms.{nought, origin_of}
use Rattle.store.specs.Stored.{write_coordinate, write_point, read_coordinate, read_point}
use Rattle.store.specs.FormsLaws.{origin-near}

there : (start z : ℤ) → start +ℤ (z -ℤ start) ≡ z
there start z = reify (start ∷ z ∷ []) (λ ρ v. simp (reading, v 0, v 1) (solve _ _ _ tt))

pub back : (start d : ℤ) → start +ℤ d -ℤ start ≡ d
back start d = reify (start ∷ d ∷ []) (λ ρ v. simp (reading, v 0, v 1) (solve _ _ _ tt))

pub near_within : (z : ℤ) → beyond z ≡ false → Within reach_size z
near_within z e = let f = simp flags at e in w-intro f.0 f.1

-- the difference of two coordinates, as it is stored
pub stored-small : (start z : ℤ) → beyond start ≡ false → beyond z ≡ false → zigzag (z -ℤ start) ≤ 4 * reach_size
stored-small start z h e = omega (arith, zigzag-small (z -ℤ start) (reach_size + reach_size) (w-sub (near_within z e) (near_within start h)).within)

pub coordinate-back :
    (start z : ℤ) (rest : List ℕ) → beyond start ≡ false → beyond z ≡ false → read_coordinate start (write_coordinate start z ++ rest) ≡ got z rest
unfolding read_coordinate
coordinate-back start z rest h e =
    let small = stored-small start z h e in
    let is : start +ℤ unzigzag (zigzag (z -ℤ start)) ≡ z = ap (λ (d : ℤ). start +ℤ d) (unzigzag-zigzag (z -ℤ start)) ∙ there start z in
    simp (number-back (zigzag (z -ℤ start)) rest (omega arith), is, e)

pub coordinate-from : (start : ℤ) (bs : List ℕ) → Bytes bs → From (write_coordinate start) bs (read_coordinate start bs)
unfolding read_coordinate
coordinate-from start bs h = go (number-from bs h)
  where
    go : {r : Reading ℕ} → From write_number bs r
        → From (write_coordinate start) bs
        (next r (λ n rest. checked (beyond (start +ℤ unzigzag n)) (pos 2) (start +ℤ unzigzag n) rest))
    go (not n) = not n
    go (from n rest e) =
        from-checked (beyond (start +ℤ unzigzag n)) (pos 2) (start +ℤ unzigzag n) rest
        (e ∙ ap (λ (k : ℕ). write_number k ++ rest) (sym (ap zigzag (back start (unzigzag n)) ∙ zigzag-unzigzag n)))

-- ---- points

pub record InReach (p : Vec) : Type 0 where
  pub in_x : beyond p.x ≡ false
  pub in_y : beyond p.y ≡ false

pub point-back : (start p : Vec) (rest : List ℕ) → InReach start → InReach p → read_point start (write_point start p ++ rest) ≡ got p rest
unfolding read_point
point-back start p rest k h =
    simp (
      append_assoc (write_coordinate start.x p.x) (write_coordinate start.y p.y) rest,
      coordinate-back start.x p.x (write_coordinate start.y p.y ++ rest) k.in_x h.in_x,
      coordinate-back start.y p.y rest k.in_y h.in_y,
    )

pub point-from : (start : Vec) (bs : List ℕ) → Bytes bs → From (write_point start) bs (read_point start bs)
unfolding read_point
point-from start bs h = go (coordinate-from start.x bs h)
  where
    second : (x : ℤ) (rest : List ℕ) → bs ≡ write_coordinate start.x x ++ rest → {r : Reading ℤ} → From (write_coordinate start.y) rest r
        → From (write_point start) bs (next r (λ y rest. got (vec x y) rest))
    second x rest e (not n) = not n
    second x rest e (from y rest' f) =
        from (vec x y) rest'
        (e
        ∙ ap (λ (l : List ℕ). write_coordinate start.x x ++ l) f
        ∙ sym (append_assoc (write_coordinate start.x x) (write_coordinate start.y y) rest'))

    go : {r : Reading ℤ} → From (write_coordinate start.x) bs r
        → From (write_point start) bs (next r (λ x rest. next (read_coordinate start.y rest) (λ y rest. got (vec x y) rest)))
    go (not n) = not n
    go (from x rest e) = second x rest e (coordinate-from start.y rest (behind-bytes (write_coordinate start.x x) e h))

-- ---- where points are counted from

pub near-nought : InReach nought
near-nought = record { in_x = refl; in_y = refl }

pub near-origin : (f : Form) {p : Vec} → InReach p → InReach (origin_of f p)
near-origin f {p} h = record { in_x = origin-near f p.x h.in_x; in_y = origin-near f p.y h.in_y }
