-- The laws of joints. To cite:
--   same_point, end_is          what the flags say: the five numbers are equal; it is the first end, or the last
--   Joint, joint-is             a joint is a point that two objects share and that is an end of both
--   joint-once, joint-many      of two that share one point: whether it is an end of both;  two that share many are no joint
--   kept-asked, kept-left       what is kept: everything where joints are asked for; else nothing of a joint, and of others everything
--   kept-none                   nothing of two that share nothing
--   joint-as, kept-as           two pairs that share the same, and whose ends are the same, are alike;  joint-over, kept-over  the two changed over
--   joint-tag, joint-tag-second, kept-tag, kept-tag-second   nothing depends on the tag
-- Assumes nothing.
use Rattle.std.specs.Prelude.{◌≡◌, Bool, ◌||◌, ◌⊎◌, ◌↔◌, ℤ}
use Rattle.std.proofs.Math.Path.{refl, ap, ap₂}
use Rattle.std.proofs.Common.{sym, ◌∙◌, subst, true≢false, inl, inr}
use Rattle.std.proofs.Math.Bool.{true, false, cond, not, ◌&&◌, and_comm}
use Rattle.sheet.specs.declared.Object.{Object}
use Rattle.sheet.specs.declared.Point.{Point}
use Rattle.sheet.specs.Figure.{figure}
use Rattle.sheet.specs.Ends.{first_end, last_end}
use Rattle.sheet.specs.Crossing.{Meeting, none, point, many, crossing_of}
use Rattle.sheet.specs.Flags.{both, either, flags}
use Rattle.sheet.specs.Tags.{tagged}
use Rattle.sheet.specs.TagLaws.{crossing-tag, crossing-tag-second}
use Rattle.sheet.specs.Joint.{is_same_point, is_end, joint_by, joint, kept}

-- ---- what the flags say

pub same_point : (p q : Point) → (is_same_point p q ≡ true) ↔ (p ≡ q)
same_point p q = (read, λ e. subst (λ (s : Point). is_same_point p s ≡ true) e (simp flags ((((refl, refl), refl), refl), refl)))
  where
    read : is_same_point p q ≡ true → p ≡ q
    read h =
        let f = simp flags at h in
        λ i. record { mx = f.0.0.0.0 i; nx = f.0.0.0.1 i; my = f.0.0.1 i; ny = f.0.1 i; w = f.1 i }

pub end_is : (o : Object) (e : Point) → (is_end (figure o) e ≡ true) ↔ ((e ≡ first_end o) ⊎ (e ≡ last_end o))
unfolding first_end last_end
end_is o e = (λ h. read ((either _ _).0 h), λ h. (either _ _).1 (write h))
  where
    read : (is_same_point e (first_end o) ≡ true) ⊎ (is_same_point e (last_end o) ≡ true) → (e ≡ first_end o) ⊎ (e ≡ last_end o)
    read (inl h) = inl ((same_point e (first_end o)).0 h)
    read (inr h) = inr ((same_point e (last_end o)).0 h)

    write : (e ≡ first_end o) ⊎ (e ≡ last_end o) → (is_same_point e (first_end o) ≡ true) ⊎ (is_same_point e (last_end o) ≡ true)
    write (inl h) = inl ((same_point e (first_end o)).1 h)
    write (inr h) = inr ((same_point e (last_end o)).1 h)

-- ---- a joint

pub record Joint (a b : Object) : Type 0 where
  pub e : Point
  pub shared : crossing_of a b ≡ point e
  pub end_of_first : (e ≡ first_end a) ⊎ (e ≡ last_end a)
  pub end_of_second : (e ≡ first_end b) ⊎ (e ≡ last_end b)

module _ (a b : Object) where
  pub joint-once : {e : Point} → crossing_of a b ≡ point e → joint a b ≡ (is_end (figure a) e && is_end (figure b) e)
  unfolding joint
  joint-once q = ap (joint_by (figure a) (figure b)) q

  pub joint-many : crossing_of a b ≡ many → joint a b ≡ false
  unfolding joint
  joint-many q = ap (joint_by (figure a) (figure b)) q

  pub joint-is : (joint a b ≡ true) ↔ Joint a b
  unfolding joint
  joint-is = (read (crossing_of a b) refl, write)
    where
      read : (m : Meeting) → crossing_of a b ≡ m → joint_by (figure a) (figure b) m ≡ true → Joint a b
      read none q h = absurd (true≢false (sym h))
      read (point e) q h =
          let f = (both _ _).0 h in
          record { e = e; shared = q; end_of_first = (end_is a e).0 f.0; end_of_second = (end_is b e).0 f.1 }
      read many q h = absurd (true≢false (sym h))

      write : Joint a b → joint a b ≡ true
      write j =
          joint-once j.shared
          ∙ (both _ _).1 ((end_is a j.e).1 j.end_of_first, (end_is b j.e).1 j.end_of_second)

  -- ---- what is kept

  pub kept-asked : kept true a b ≡ crossing_of a b
  unfolding kept
  kept-asked = refl

  pub kept-left : kept false a b ≡ cond (joint a b) none (crossing_of a b)
  unfolding kept
  kept-left = go (joint a b)
    where
      go : (t : Bool) → cond (not t) (crossing_of a b) none ≡ cond t none (crossing_of a b)
      go true = refl
      go false = refl

  -- nothing of two that share nothing
  pub kept-none : (joints : Bool) → crossing_of a b ≡ none → kept joints a b ≡ none
  unfolding kept
  kept-none joints e = go (joints || not (joint a b))
    where
      go : (t : Bool) → cond t (crossing_of a b) none ≡ none
      go true = e
      go false = refl

-- ---- two pairs that share the same, with the same ends

module _ (a b c d : Object) (q : crossing_of a b ≡ crossing_of c d)
    (f : (e : Point) → is_end (figure a) e ≡ is_end (figure c) e) (g : (e : Point) → is_end (figure b) e ≡ is_end (figure d) e) where
  pub joint-as : joint a b ≡ joint c d
  unfolding joint
  joint-as = ap (joint_by (figure a) (figure b)) q ∙ go (crossing_of c d)
    where
      go : (m : Meeting) → joint_by (figure a) (figure b) m ≡ joint_by (figure c) (figure d) m
      go none = refl
      go (point e) = ap₂ ◌&&◌ (f e) (g e)
      go many = refl

  pub kept-as : (joints : Bool) → kept joints a b ≡ kept joints c d
  unfolding kept
  kept-as joints = λ i. cond (joints || not (joint-as i)) (q i) none

-- the two changed over
module _ (a b : Object) (q : crossing_of a b ≡ crossing_of b a) where
  pub joint-over : joint a b ≡ joint b a
  unfolding joint
  joint-over = ap (joint_by (figure a) (figure b)) q ∙ go (crossing_of b a)
    where
      go : (m : Meeting) → joint_by (figure a) (figure b) m ≡ joint_by (figure b) (figure a) m
      go none = refl
      go (point e) = and_comm (is_end (figure a) e) (is_end (figure b) e)
      go many = refl

  pub kept-over : (joints : Bool) → kept joints a b ≡ kept joints b a
  unfolding kept
  kept-over joints = λ i. cond (joints || not (joint-over i)) (q i) none

-- ---- tags: an object's figure has none

module _ (t : ℤ) (a b : Object) where
  pub joint-tag : joint (tagged t a) b ≡ joint a b
  joint-tag = joint-as (tagged t a) b a b (crossing-tag t a b) (λ e. refl) (λ e. refl)

  pub joint-tag-second : joint a (tagged t b) ≡ joint a b
  joint-tag-second = joint-as a (tagged t b) a b (crossing-tag-second t a b) (λ e. refl) (λ e. refl)

  pub kept-tag : (joints : Bool) → kept joints (tagged t a) b ≡ kept joints a b
  kept-tag = kept-as (tagged t a) b a b (crossing-tag t a b) (λ e. refl) (λ e. refl)

  pub kept-tag-second : (joints : Bool) → kept joints a (tagged t b) ≡ kept joints a b
  kept-tag-second = kept-as a (tagged t b) a b (crossing-tag-second t a b) (λ e. refl) (λ e. refl)
