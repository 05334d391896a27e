-- What a reader expects of the side of circle, of the contract of side_of_circle. To cite:
--   swapped-first, swapped-last, swapped-ends   changing over two of the first three points changes the sign, and keeps a refusal
--   repeated        where two of the four points are equal, a call that is not refused answers 0
use mathlib.Core.Path.{◌≡◌, sym, ◌∙◌, ap, ap₂}
use mathlib.Core.List.{[], ◌∷◌}
use lib.IntN.{ℤ, pos, neg_ℤ, neg_ℤ-neg_ℤ, ℤ_discrete}
use contract.Lifetimes.{Lfts}
use Rattle.std.specs.Prelude.{Result, Ok, Err}
use Rattle.sheet.specs.declared.Point.{Point}
use Rattle.sheet.specs.declared.refusal.Refusal.{Refusal}
use Rattle.sheet.specs.Answers.{answer, signed_says}
use Rattle.sheet.specs.Refused.{no_of}
use Rattle.sheet.specs.AnswersLaws.{refused, accepted, signed-one}
use Rattle.sheet.specs.Circle.{side_of_circle, circle_refusal, Repeats}
use Rattle.sheet.proofs.CircleLaws.{circle-swap-first, circle-swap-middle, circle-repeats, refusal-swap-first, refusal-swap-middle}
use Rattle.kernel.proofs.circle.side_of_circle.Reads as side-of-circle

-- the other sign, and the same refusal
abbrev pub opposite : Result ℤ Refusal → Result ℤ Refusal
opposite (Ok n) = Ok (neg_ℤ n)
opposite (Err e) = Err e

opposite-says : (n c : ℤ) (r : Result ℤ Refusal) → signed_says r ≡ answer n (c ∷ []) → signed_says (opposite r) ≡ answer n (neg_ℤ c ∷ [])
opposite-says n c (Ok d) e = go (ℤ_discrete n (pos 0))
  where
    go : Dec (n ≡ pos 0) → pos 0 ∷ neg_ℤ d ∷ [] ≡ answer n (neg_ℤ c ∷ [])
    go (yes z) =
        let h : pos 0 ∷ d ∷ [] ≡ pos 0 ∷ c ∷ [] = e ∙ accepted (c ∷ []) z in
        let same : d ≡ c = cc in
        ap (λ (x : ℤ). pos 0 ∷ neg_ℤ x ∷ []) same ∙ sym (accepted (neg_ℤ c ∷ []) z)
    go (no d') = let h : pos 0 ∷ d ∷ [] ≡ n ∷ [] = e ∙ refused (c ∷ []) d' in let z : ⊥ = cc in absurd z
opposite-says n c (Err r) e = go (ℤ_discrete n (pos 0))
  where
    go : Dec (n ≡ pos 0) → no_of r ∷ [] ≡ answer n (neg_ℤ c ∷ [])
    go (yes z) = let h : no_of r ∷ [] ≡ pos 0 ∷ c ∷ [] = e ∙ accepted (c ∷ []) z in let y : ⊥ = cc in absurd y
    go (no d) = e ∙ refused (c ∷ []) d ∙ sym (refused (neg_ℤ c ∷ []) d)

-- two answers that have the same refusal and opposite signs
opposed : {n m d : ℤ} (c : ℤ) → m ≡ n → d ≡ neg_ℤ c → (r t : Result ℤ Refusal)
    → signed_says r ≡ answer n (c ∷ []) → signed_says t ≡ answer m (d ∷ []) → t ≡ opposite r
opposed {n} c e f r t a b = signed-one t (opposite r) (b ∙ ap₂ (λ (x y : ℤ). answer x (y ∷ [])) e f ∙ sym (opposite-says n c r a))

module _ (κs : Lfts 0) (p q s u : Point) (r t : Result ℤ Refusal) (a : side-of-circle.Post κs (p, (q, (s, (u, tt)))) r (p, (q, (s, (u, tt))))) where
  pub swapped-first : side-of-circle.Post κs (q, (p, (s, (u, tt)))) t (q, (p, (s, (u, tt)))) → t ≡ opposite r
  swapped-first b = opposed (side_of_circle p q s u) (refusal-swap-first p q s u) (circle-swap-first p q s u) r t a b

  pub swapped-last : side-of-circle.Post κs (p, (s, (q, (u, tt)))) t (p, (s, (q, (u, tt)))) → t ≡ opposite r
  swapped-last b = opposed (side_of_circle p q s u) (refusal-swap-middle p q s u) (circle-swap-middle p q s u) r t a b

  -- p q s, q p s, q s p, s q p
  pub swapped-ends : side-of-circle.Post κs (s, (q, (p, (u, tt)))) t (s, (q, (p, (u, tt)))) → t ≡ opposite r
  swapped-ends b =
      opposed (side_of_circle p q s u)
      (refusal-swap-first q s p u ∙ refusal-swap-middle q p s u ∙ refusal-swap-first p q s u)
      (circle-swap-first q s p u ∙ ap neg_ℤ (circle-swap-middle q p s u ∙ ap neg_ℤ (circle-swap-first p q s u) ∙ neg_ℤ-neg_ℤ (side_of_circle p q s u)))
      r t a b

pub repeated : (κs : Lfts 0) (p q s u : Point) (r : Result ℤ Refusal) → side-of-circle.Post κs (p, (q, (s, (u, tt)))) r (p, (q, (s, (u, tt))))
    → Repeats p q s u → signed_says r ≡ answer (circle_refusal p q s u) (pos 0 ∷ [])
repeated κs p q s u r a e = a ∙ ap (λ (z : ℤ). answer (circle_refusal p q s u) (z ∷ [])) (circle-repeats p q s u e)
