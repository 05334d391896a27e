-- The laws of fractions. To cite:
--   equal-refl, equal-sym, equal-trans             sameness is an equivalence
--   sum-equal, product-equal, opposite-equal       sums, products, opposites of the same are the same
--   at-most-equal, less_equal                      order respects it on both sides
--   at-most-trans, less-at-most-trans, at-most-antisym, at-most-or-less   order is total, transitive, antisymmetric
--   apart, at-most-apart, less-apart               order by the sign of the difference
-- Assumes nothing.
use Rattle.std.specs.Prelude.{◌≡◌, refl, ◌⊎◌, ◌↔◌, [], ◌∷◌, ℤ, pos, neg_ℤ, ◌-ℤ◌, ◌*ℤ◌, ◌≤ℤ◌, ◌<ℤ◌}
use Rattle.std.proofs.Common.{sym, ◌∙◌, ap, inl, inr}
use Rattle.whole.specs.Laws.{neg-mul}
use Rattle.whole.specs.Reify.{reify, reading, solve, val_pos}
use Rattle.whole.specs.Order.{le-cert, lt-cert, le-nn, lt-pp, nn-add, nn-mul, pp-add, pp-mul, pp-nn, ≤-antisym, le-or-lt}
use Rattle.whole.specs.Cert.{z-eq, z-add, nn-eq, eq-cert, eq-by, le-by, lt_by}
use Rattle.whole.specs.Fraction.{Fraction, Equal, AtMost, Less, sum, product, opposite}

pub equal-refl : (a : Fraction) → Equal a a
equal-refl a = record { equal = refl }

pub equal-sym : {a b : Fraction} → Equal a b → Equal b a
equal-sym e = record { equal = sym e.equal }

-- den b (num a den c - num c den a) = den c (a = b) + den a (b = c)
pub equal-trans : {a b c : Fraction} → Equal a b → Equal b c → Equal a c
equal-trans {a} {b} {c} e f = record {
  equal =
      eq-by b.den b.above _ (z-add (z-eq c.den e.equal) (z-eq a.den f.equal))
      (reify (a.num ∷ a.den ∷ b.num ∷ b.den ∷ c.num ∷ c.den ∷ [])
      (λ ρ v. simp (reading, v 0, v 1, v 2, v 3, v 4, v 5) (solve _ _ _ tt)));
}

module _ {a a' b b' : Fraction} (e : Equal a a') (f : Equal b b') where
  pub sum-equal : Equal (sum a b) (sum a' b')
  sum-equal = record {
    equal =
        eq-cert _ (z-add (z-eq (b.den *ℤ b'.den) e.equal) (z-eq (a.den *ℤ a'.den) f.equal))
        (reify (a.num ∷ a.den ∷ a'.num ∷ a'.den ∷ b.num ∷ b.den ∷ b'.num ∷ b'.den ∷ [])
        (λ ρ v. simp (reading, v 0, v 1, v 2, v 3, v 4, v 5, v 6, v 7) (solve _ _ _ tt)));
  }

  pub product-equal : Equal (product a b) (product a' b')
  product-equal = record {
    equal =
        eq-cert _ (z-add (z-eq (b.num *ℤ b'.den) e.equal) (z-eq (a'.num *ℤ a.den) f.equal))
        (reify (a.num ∷ a.den ∷ a'.num ∷ a'.den ∷ b.num ∷ b.den ∷ b'.num ∷ b'.den ∷ [])
        (λ ρ v. simp (reading, v 0, v 1, v 2, v 3, v 4, v 5, v 6, v 7) (solve _ _ _ tt)));
  }

  -- den a den b (b' - a') = den a' den b' (b - a) and the two equations
  pub at-most-equal : AtMost a b → AtMost a' b'
  at-most-equal h = record {
    at_most =
        le-by (a.den *ℤ b.den) (pp-mul a.above b.above) _
        (nn-add (nn-mul (pp-nn (pp-mul a'.above b'.above)) (le-nn h.at_most))
        (nn-add (nn-eq (b.den *ℤ b'.den) e.equal) (nn-eq (neg_ℤ (a.den *ℤ a'.den)) f.equal)))
        (reify (a.num ∷ a.den ∷ a'.num ∷ a'.den ∷ b.num ∷ b.den ∷ b'.num ∷ b'.den ∷ [])
        (λ ρ v. simp (reading, v 0, v 1, v 2, v 3, v 4, v 5, v 6, v 7) (solve _ _ _ tt)));
  }

  pub less_equal : Less a b → Less a' b'
  less_equal h = record {
    less =
        lt_by (a.den *ℤ b.den) (pp-nn (pp-mul a.above b.above)) _
        (pp-add (pp-mul (pp-mul a'.above b'.above) (lt-pp h.less))
        (nn-add (nn-eq (b.den *ℤ b'.den) e.equal) (nn-eq (neg_ℤ (a.den *ℤ a'.den)) f.equal)))
        (reify (a.num ∷ a.den ∷ a'.num ∷ a'.den ∷ b.num ∷ b.den ∷ b'.num ∷ b'.den ∷ [])
        (λ ρ v. simp (reading, v 0, v 1, v 2, v 3, v 4, v 5, v 6, v 7) (solve _ _ _ tt)));
  }

pub opposite-equal : {a b : Fraction} → Equal a b → Equal (opposite a) (opposite b)
opposite-equal {a} {b} e = record {
  equal = neg-mul a.num b.den ∙ ap neg_ℤ e.equal ∙ sym (neg-mul b.num a.den);
}

pub at-most-trans : {a b c : Fraction} → AtMost a b → AtMost b c → AtMost a c
at-most-trans {a} {b} {c} h k = record {
  at_most =
      le-by b.den b.above _ (nn-add (nn-mul (pp-nn c.above) (le-nn h.at_most)) (nn-mul (pp-nn a.above) (le-nn k.at_most)))
      (reify (a.num ∷ a.den ∷ b.num ∷ b.den ∷ c.num ∷ c.den ∷ [])
      (λ ρ v. simp (reading, v 0, v 1, v 2, v 3, v 4, v 5) (solve _ _ _ tt)));
}

pub less-at-most-trans : {a b c : Fraction} → Less a b → AtMost b c → Less a c
less-at-most-trans {a} {b} {c} h k = record {
  less =
      lt_by b.den (pp-nn b.above) _ (pp-add (pp-mul c.above (lt-pp h.less)) (nn-mul (pp-nn a.above) (le-nn k.at_most)))
      (reify (a.num ∷ a.den ∷ b.num ∷ b.den ∷ c.num ∷ c.den ∷ [])
      (λ ρ v. simp (reading, v 0, v 1, v 2, v 3, v 4, v 5) (solve _ _ _ tt)));
}

pub at-most-antisym : {a b : Fraction} → AtMost a b → AtMost b a → Equal a b
at-most-antisym h k = record { equal = ≤-antisym h.at_most k.at_most }

pub at-most-or-less : (a b : Fraction) → AtMost a b ⊎ Less b a
at-most-or-less a b = go (le-or-lt (a.num *ℤ b.den) (b.num *ℤ a.den))
  where
    go : ((a.num *ℤ b.den) ≤ℤ (b.num *ℤ a.den)) ⊎ ((b.num *ℤ a.den) <ℤ (a.num *ℤ b.den)) → AtMost a b ⊎ Less b a
    go (inl h) = inl (record { at_most = h })
    go (inr h) = inr (record { less = h })

abbrev pub apart : Fraction → Fraction → ℤ
apart a b = a.num *ℤ b.den -ℤ b.num *ℤ a.den

opposed : (x y : ℤ) → y -ℤ x ≡ pos 0 -ℤ (x -ℤ y)
opposed x y = reify (x ∷ y ∷ []) (λ ρ v. simp (reading, v 0, v 1, val_pos ρ) (solve _ _ _ tt))

module _ (a b : Fraction) where
  pub at-most-apart : AtMost a b ↔ (apart a b ≤ℤ pos 0)
  at-most-apart = (
    λ h. le-cert _ (le-nn h.at_most) (sym (opposed (a.num *ℤ b.den) (b.num *ℤ a.den))),
    λ h. record { at_most = le-cert _ (le-nn h) (opposed (a.num *ℤ b.den) (b.num *ℤ a.den)) },
  )

  pub less-apart : Less a b ↔ (apart a b <ℤ pos 0)
  less-apart = (
    λ h. lt-cert _ (lt-pp h.less) (sym (opposed (a.num *ℤ b.den) (b.num *ℤ a.den))),
    λ h. record { less = lt-cert _ (lt-pp h) (opposed (a.num *ℤ b.den) (b.num *ℤ a.den)) },
  )
