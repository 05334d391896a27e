-- Which objects are refused, worked out by document 01's numbers, and by document 02's of a tag: what table and order say of one object. A
-- definition that says something else is refused here, whatever the code does.
use Rattle.std.specs.Prelude.{◌≡◌, refl, List, [], ◌∷◌, map, ℤ, pos}
use Rattle.sheet.specs.declared.Object.{Object}
use Rattle.sheet.specs.Refusal.{pair_refusal, side_refusal, object_refusal}
use Rattle.sheet.specs.Answers.{makes}
use Rattle.sheet.specs.Tags.{tagged}
use Rattle.sheet.specs.Cases.{minus, object, segment, ray, line, side}

-- the refusal of each of several objects
abbrev refusals : List Object → List ℤ
refusals os = map object_refusal os

-- a tag that is out of range, on objects that are refused by 1, 4, 2 and 3 too
abbrev no_tag : Object → Object
no_tag o = tagged (pos 2000001) o

pub record WorkedObjects : Type 0 where
  -- "1: kind not 1 to 4"
  kinds-taken :
      refusals (segment (pos 0) (pos 0) (pos 1) (pos 1) ∷ ray (pos 0) (pos 0) (pos 1) (pos 1) ∷ line (pos 0) (pos 0) (pos 1) (pos 1)
      ∷ side (pos 1) ∷ [])
      ≡ pos 0 ∷ pos 0 ∷ pos 0 ∷ pos 0 ∷ []
  kind_below : object_refusal (object (pos 0) (pos 0) (pos 0) (pos 1) (pos 1)) ≡ pos 1
  kind_above : object_refusal (object (pos 5) (pos 0) (pos 0) (pos 1) (pos 1)) ≡ pos 1
  kind_negative : object_refusal (object (minus 1) (pos 0) (pos 0) (pos 1) (pos 1)) ≡ pos 1
  -- "2: a coordinate beyond 2,000 either way": "from -2,000 to 2,000, both included"
  at_the_limit :
      refusals (segment (pos 2000) (pos 2000) (minus 2000) (minus 2000) ∷ line (minus 2000) (minus 2000) (pos 2000) (pos 2000) ∷ [])
      ≡ pos 0 ∷ pos 0 ∷ []
  beyond-above :
      refusals (segment (pos 2001) (pos 0) (pos 0) (pos 0) ∷ segment (pos 0) (pos 2001) (pos 0) (pos 0)
      ∷ ray (pos 0) (pos 0) (pos 2001) (pos 0) ∷ line (pos 0) (pos 0) (pos 0) (pos 2001) ∷ [])
      ≡ pos 2 ∷ pos 2 ∷ pos 2 ∷ pos 2 ∷ []
  beyond-below :
      refusals (segment (minus 2001) (pos 0) (pos 0) (pos 0) ∷ segment (pos 0) (minus 2001) (pos 0) (pos 0)
      ∷ ray (pos 0) (pos 0) (minus 2001) (pos 0) ∷ line (pos 0) (pos 0) (pos 0) (minus 2001) ∷ [])
      ≡ pos 2 ∷ pos 2 ∷ pos 2 ∷ pos 2 ∷ []
  -- "3: p equals q"
  p-equals-q :
      refusals (segment (pos 5) (pos 6) (pos 5) (pos 6) ∷ ray (pos 0) (pos 0) (pos 0) (pos 0) ∷ line (pos 5) (pos 6) (pos 5) (pos 6) ∷ [])
      ≡ pos 3 ∷ pos 3 ∷ pos 3 ∷ []
  one-coordinate-differs :
      refusals (segment (pos 5) (pos 6) (pos 5) (pos 7) ∷ segment (pos 5) (pos 6) (pos 4) (pos 6) ∷ segment (pos 5) (pos 6) (pos 6) (pos 5) ∷ [])
      ≡ pos 0 ∷ pos 0 ∷ pos 0 ∷ []
  -- "4: side number not 1 to 4, or one of the other three numbers not 0"
  sides_taken : refusals (side (pos 1) ∷ side (pos 2) ∷ side (pos 3) ∷ side (pos 4) ∷ []) ≡ pos 0 ∷ pos 0 ∷ pos 0 ∷ pos 0 ∷ []
  no-side : refusals (side (pos 0) ∷ side (pos 5) ∷ side (minus 1) ∷ []) ≡ pos 4 ∷ pos 4 ∷ pos 4 ∷ []
  another-number :
      refusals (object (pos 4) (pos 1) (pos 1) (pos 0) (pos 0) ∷ object (pos 4) (pos 1) (pos 0) (minus 1) (pos 0)
      ∷ object (pos 4) (pos 1) (pos 0) (pos 0) (pos 1) ∷ [])
      ≡ pos 4 ∷ pos 4 ∷ pos 4 ∷ []
  -- "One object: 1, then 4 for kind 4; else 2, then 3."
  one_before_all : object_refusal (object (pos 5) (pos 2001) (pos 9) (pos 2001) (pos 9)) ≡ pos 1
  four_for_kind_four : object_refusal (object (pos 4) (pos 2001) (pos 9) (pos 2001) (pos 9)) ≡ pos 4
  two_before_three : object_refusal (segment (pos 2001) (pos 9) (pos 2001) (pos 9)) ≡ pos 2
  two_before_three_below : object_refusal (line (pos 0) (minus 2001) (pos 0) (minus 2001)) ≡ pos 2
  -- "a tag from 0 to 2,000,000"; "15 tag out of range, after 3 or 4"
  tags-taken :
      refusals (tagged (pos 0) (side (pos 1)) ∷ tagged (pos 2000000) (side (pos 1)) ∷ tagged (pos 1) (segment (pos 0) (pos 0) (pos 1) (pos 1))
      ∷ tagged (pos 2000000) (line (pos 0) (pos 0) (pos 1) (pos 1)) ∷ [])
      ≡ pos 0 ∷ pos 0 ∷ pos 0 ∷ pos 0 ∷ []
  no-tag :
      refusals (tagged (pos 2000001) (side (pos 1)) ∷ tagged (minus 1) (side (pos 1)) ∷ tagged (pos 2000001) (segment (pos 0) (pos 0) (pos 1) (pos 1))
      ∷ tagged (minus 1) (ray (pos 0) (pos 0) (pos 1) (pos 1)) ∷ [])
      ≡ pos 15 ∷ pos 15 ∷ pos 15 ∷ pos 15 ∷ []
  fifteen-last :
      refusals (no_tag (object (pos 5) (pos 0) (pos 0) (pos 1) (pos 1)) ∷ no_tag (side (pos 5)) ∷ no_tag (segment (pos 2001) (pos 0) (pos 0) (pos 0))
      ∷ no_tag (line (pos 5) (pos 6) (pos 5) (pos 6)) ∷ [])
      ≡ pos 1 ∷ pos 4 ∷ pos 2 ∷ pos 3 ∷ []
  -- a maker: the six numbers, or the object's own refusal
  makers :
      (makes (pos 3) (pos 0) (pos 0) (pos 2) (pos 1) (pos 7) ≡ pos 0 ∷ pos 3 ∷ pos 0 ∷ pos 0 ∷ pos 2 ∷ pos 1 ∷ pos 7 ∷ [])
      × (makes (pos 1) (pos 5) (pos 6) (pos 5) (pos 6) (pos 2000001) ≡ pos 3 ∷ [])
      × (makes (pos 4) (pos 1) (pos 0) (pos 0) (pos 0) (pos 2000001) ≡ pos 15 ∷ [])

pub worked-objects : WorkedObjects
unfolding pair_refusal side_refusal object_refusal
worked-objects = record {
  kinds-taken = refl;
  kind_below = refl;
  kind_above = refl;
  kind_negative = refl;
  at_the_limit = refl;
  beyond-above = refl;
  beyond-below = refl;
  p-equals-q = refl;
  one-coordinate-differs = refl;
  sides_taken = refl;
  no-side = refl;
  another-number = refl;
  one_before_all = refl;
  four_for_kind_four = refl;
  two_before_three = refl;
  two_before_three_below = refl;
  tags-taken = refl;
  no-tag = refl;
  fifteen-last = refl;
  makers = (refl, refl, refl);
}
