-- One coordinate of two points, (m R + n)/w and (m' R + n')/w', for every R above 256,000,008,000,000. To cite:
--   Coordinate, x-of, y_of   the sizes that a point's coordinate has
--   constant                 b R + c where b is 0: any R serves
--   coordinate-at            the sign of the difference at R: of what stands before R, or of the rest where this is 0
use Rattle.std.specs.Prelude.{◌≡◌, refl, [], ◌∷◌, ℤ, pos, neg_ℤ, ◌+ℤ◌, ◌-ℤ◌, ◌*ℤ◌, ◌<ℤ◌}
use Rattle.std.proofs.Common.{sym, ◌∙◌, ap}
use Rattle.std.proofs.Math.IntN.{+ℤ_idl, +ℤ_assoc, zero-*ℤ}
use Rattle.whole.specs.Reify.{reify, reading, solve, val_pos}
use Rattle.whole.specs.Order.{lt-cert}
use Rattle.whole.specs.Sign.{sgn}
use Rattle.whole.specs.SignLaws.{Signs, signs, minus, nought, plus, sgn-pos, pos-of-sgn, sgn-zero, sgn-neg-eq, sgn-mul-pos, neg-pp}
use Rattle.whole.specs.Within.{Within}
use Rattle.whole.specs.Bound.{w-neg, w-sub, w-mul, w-pos, w-lit}
use Rattle.whole.specs.Cert.{z-eq, z-add, eq-cert}
use Rattle.whole.specs.Choice.{or_else}
use Rattle.whole.specs.Lead.{small, lead-step}
use Rattle.sheet.specs.declared.Point.{Point}
use Rattle.sheet.specs.PointFacts.{APoint, a_standard, a_frame}
use Rattle.cut.specs.Bounds.{order_need}

-- "Standard: mx = my = 0 .. nx and ny within 64,000,000,000 .. Frame: w at most 4,000 .. Each n is within 8,000,000"
pub data Coordinate (m n w : ℤ) : Type 0 where
  standard : m ≡ pos 0 → Within 64000000000 n → pos 0 <ℤ w → Coordinate m n w
  frame : Within 8000000 n → Within 4000 w → Coordinate m n w

pub x-of : {p : Point} → APoint p → Coordinate p.mx p.nx p.w
x-of (a_standard s e) = standard s.no_mx s.in_nx s.in-w.above
x-of (a_frame f e) = frame f.slim.in_nx f.slim.in-w.at_most

pub y_of : {p : Point} → APoint p → Coordinate p.my p.ny p.w
y_of (a_standard s e) = standard s.no_my s.in_ny s.in-w.above
y_of (a_frame f e) = frame f.slim.in_ny f.slim.in-w.at_most

pub constant : (R b c : ℤ) → b ≡ pos 0 → sgn (b *ℤ R +ℤ c) ≡ or_else (sgn b) (sgn c)
constant R b c e = simp (e, zero-*ℤ, +ℤ_idl, sgn-zero)

module _ {R : ℤ} (h_r : pos order_need <ℤ R) where
  -- ---- a frame point's m R + n, times w, against a number k with no R in it: 64,000,000,000 times 4,000 at most

  -- m R + n is more than that, for it is R - 8,000,000 or more
  far : (m n : ℤ) → pos 0 <ℤ m → Within 8000000 n → pos 256000000000000 <ℤ (m *ℤ R +ℤ n)
  far m n hm hn =
      lt-cert _
      (pos-of-sgn (lead-step m (n -ℤ pos 256000000000000) R (small (w-sub hn (w-pos 256000000000000)) h_r)
      ∙ ap (λ (s : ℤ). or_else s (sgn (n -ℤ pos 256000000000000))) (sgn-pos hm)))
      (+ℤ_assoc (m *ℤ R) n (neg_ℤ (pos 256000000000000)))

  outweighs : (m n w k : ℤ) → pos 0 <ℤ m → Within 8000000 n → pos 0 <ℤ w → Within 256000000000000 k
      → sgn (w *ℤ (m *ℤ R +ℤ n) +ℤ k) ≡ pos 1
  outweighs m n w k hm hn hw hk =
      lead-step w k (m *ℤ R +ℤ n) (small hk (far m n hm hn)) ∙ ap (λ (s : ℤ). or_else s (sgn k)) (sgn-pos hw)

  -- so m decides; where it is 0 there is no R
  frame-leads : (m n w k : ℤ) {b c : ℤ} → Within 8000000 n → pos 0 <ℤ w → Within 256000000000000 k → b ≡ m *ℤ w → c ≡ n *ℤ w +ℤ k
      → sgn (b *ℤ R +ℤ c) ≡ or_else (sgn b) (sgn c)
  frame-leads m n w k {b} {c} hn hw hk eb ec = go (signs m)
    where
      by-m : {s : ℤ} → sgn m ≡ s → or_else s (sgn c) ≡ or_else (sgn b) (sgn c)
      by-m e = sym (ap (λ (s : ℤ). or_else s (sgn c)) (ap sgn eb ∙ sgn-mul-pos m w hw ∙ e))

      go : Signs m → sgn (b *ℤ R +ℤ c) ≡ or_else (sgn b) (sgn c)
      go (nought z e) = constant R b c (eb ∙ ap (λ (x : ℤ). x *ℤ w) z ∙ zero-*ℤ w)
      go (plus h e) =
          ap sgn (eq-cert _ (z-add (z-eq R eb) (z-eq (pos 1) ec))
          (reify (b ∷ c ∷ m ∷ n ∷ w ∷ k ∷ R ∷ []) (λ ρ v. simp (reading, v 0, v 1, v 2, v 3, v 4, v 5, v 6, val_pos ρ) (solve _ _ _ tt))))
          ∙ outweighs m n w k h hn hw hk
          ∙ by-m e
      go (minus h e) =
          ap sgn (eq-cert _ (z-add (z-eq R eb) (z-eq (pos 1) ec))
          (reify (b ∷ c ∷ m ∷ n ∷ w ∷ k ∷ R ∷ []) (λ ρ v. simp (reading, v 0, v 1, v 2, v 3, v 4, v 5, v 6, val_pos ρ) (solve _ _ _ tt))))
          ∙ sgn-neg-eq (w *ℤ (neg_ℤ m *ℤ R +ℤ neg_ℤ n) +ℤ neg_ℤ k)
          ∙ ap neg_ℤ (outweighs (neg_ℤ m) (neg_ℤ n) w (neg_ℤ k) (neg-pp h) (w-neg hn) hw (w-neg hk))
          ∙ by-m e

  -- ---- the difference

  module _ (m n w m' n' w' : ℤ) where
    leads : Coordinate m n w → Coordinate m' n' w'
        → sgn ((m *ℤ w' -ℤ m' *ℤ w) *ℤ R +ℤ (n *ℤ w' -ℤ n' *ℤ w)) ≡ or_else (sgn (m *ℤ w' -ℤ m' *ℤ w)) (sgn (n *ℤ w' -ℤ n' *ℤ w))
    leads (standard e hn hw) (standard e' hn' hw') =
        constant R (m *ℤ w' -ℤ m' *ℤ w) (n *ℤ w' -ℤ n' *ℤ w)
        (eq-cert _ (z-add (z-eq w' e) (z-eq (neg_ℤ w) e'))
        (reify (m ∷ w ∷ m' ∷ w' ∷ []) (λ ρ v. simp (reading, v 0, v 1, v 2, v 3, val_pos ρ) (solve _ _ _ tt))))
    leads (frame hn hw) (standard e' hn' hw') =
        frame-leads m n w' (neg_ℤ (n' *ℤ w)) hn hw' (w-neg (w-mul hn' hw))
        (eq-cert _ (z-eq (neg_ℤ w) e')
        (reify (m ∷ w ∷ m' ∷ w' ∷ []) (λ ρ v. simp (reading, v 0, v 1, v 2, v 3, val_pos ρ) (solve _ _ _ tt)))) refl
    leads (standard e hn hw) (frame hn' hw') =
        frame-leads (neg_ℤ m') (neg_ℤ n') w (n *ℤ w') (w-neg hn') hw (w-mul hn hw')
        (eq-cert _ (z-eq w' e) (reify (m ∷ w ∷ m' ∷ w' ∷ []) (λ ρ v. simp (reading, v 0, v 1, v 2, v 3, val_pos ρ) (solve _ _ _ tt))))
        (reify (n ∷ w ∷ n' ∷ w' ∷ []) (λ ρ v. simp (reading, v 0, v 1, v 2, v 3) (solve _ _ _ tt)))
    leads (frame hn hw) (frame hn' hw') =
        lead-step (m *ℤ w' -ℤ m' *ℤ w) (n *ℤ w' -ℤ n' *ℤ w) R (small (w-lit (w-sub (w-mul hn hw') (w-mul hn' hw)) tt) h_r)

    pub coordinate-at : Coordinate m n w → Coordinate m' n' w'
        → sgn ((m *ℤ R +ℤ n) *ℤ w' -ℤ (m' *ℤ R +ℤ n') *ℤ w) ≡ or_else (sgn (m *ℤ w' -ℤ m' *ℤ w)) (sgn (n *ℤ w' -ℤ n' *ℤ w))
    coordinate-at a b =
        ap sgn (reify (R ∷ m ∷ n ∷ w ∷ m' ∷ n' ∷ w' ∷ []) (λ ρ v. simp (reading, v 0, v 1, v 2, v 3, v 4, v 5, v 6) (solve _ _ _ tt)))
        ∙ leads a b
