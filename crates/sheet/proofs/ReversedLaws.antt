-- A segment or a line with p and q changed over. To cite:
--   reversed          the object itself;  reversed-accepted  it is accepted where the object is
--   far-same          the far end does not depend on which of p and q the line is taken from
--   reversed-ends     its ends are the same two, changed over;  reversed_end  so its ends are the object's
--   reversed-side     its side sign is the opposite
-- Assumes nothing.
use Rattle.std.specs.Prelude.{◌≡◌, cond, ◌&&◌, ◌||◌, ◌⊎◌, [], ◌∷◌, ℤ, pos, neg_ℤ, ◌-ℤ◌}
use Rattle.std.proofs.Common.{sym, ◌∙◌, ap, inl, inr}
use Rattle.std.proofs.Math.Bool.{or_assoc, or_comm}
use Rattle.whole.specs.Reify.{reify, reading, solve}
use Rattle.whole.specs.Choice.{or_else}
use Rattle.whole.specs.Flag.{eq_z}
use Rattle.whole.specs.Tests.{eq_z-true, eq-eq_z}
use Rattle.sheet.specs.declared.Object.{Object}
use Rattle.sheet.specs.declared.Point.{Point}
use Rattle.sheet.specs.Figure.{Vec, ◌⇀◌, first, second, figure}
use Rattle.sheet.specs.Points.{given, divided}
use Rattle.sheet.specs.Ends.{moment, far_raw, far_end, reverse, first_of, last_of, first_end, last_end}
use Rattle.sheet.specs.Signs.{side_sign}
use Rattle.sheet.specs.Joint.{is_same_point, is_end}
use Rattle.sheet.specs.Refusal.{beyond, any_beyond, equal, pair_refusal, refusal_of, tag_refusal, object_refusal, Accepted}
use Rattle.sheet.specs.Flags.{same_flag}
use Rattle.sheet.proofs.RefusalLaws.{kind-segment, kind-line}
use Rattle.sheet.specs.Expansions.{side-of-figure}
use Rattle.sheet.proofs.SignsLaws.{turn-swap-first}

abbrev pub reversed : Object → Object
reversed o = record { kind = o.kind; px = o.qx; py = o.qy; qx = o.px; qy = o.py; tag = o.tag }

-- ---- it is accepted

pair-over : (px py qx qy : ℤ) → pair_refusal qx qy px py ≡ pair_refusal px py qx qy
unfolding pair_refusal
pair-over px py qx qy = λ i. cond (any i) (pos 2) (cond (equal_over i) (pos 3) (pos 0))
  where
    any : any_beyond qx qy px py ≡ any_beyond px py qx qy
    any = or_assoc (beyond qx || beyond qy) (beyond px) (beyond py) ∙ or_comm (beyond qx || beyond qy) (beyond px || beyond py) ∙ sym (or_assoc (beyond px || beyond py) (beyond qx) (beyond qy))

    flag-over : (a b : ℤ) → eq_z a b ≡ eq_z b a
    flag-over a b = same_flag (eq_z a b) (eq_z b a) (λ e. eq-eq_z {a = b} {b = a} (sym (eq_z-true {a = a} {b = b} e))) (λ e. eq-eq_z {a = a} {b = b} (sym (eq_z-true {a = b} {b = a} e)))

    equal_over : equal qx qy px py ≡ equal px py qx qy
    equal_over = λ i. flag-over qx px i && flag-over qy py i

pub reversed-accepted : {o : Object} → (o.kind ≡ pos 1) ⊎ (o.kind ≡ pos 3) → Accepted o → Accepted (reversed o)
unfolding object_refusal
reversed-accepted {o} k a = record { accepted = ap (λ (n : ℤ). or_else n (tag_refusal o.tag)) (same k) ∙ a.accepted }
  where
    same : (o.kind ≡ pos 1) ⊎ (o.kind ≡ pos 3) → refusal_of o.kind o.qx o.qy o.px o.py ≡ refusal_of o.kind o.px o.py o.qx o.qy
    same (inl e) = simp (e, pair-over o.px o.py o.qx o.qy)
    same (inr e) = simp (e, pair-over o.px o.py o.qx o.qy)

-- ---- its ends

-- the far end from q toward p, reversed, is that from p toward q: d is the same, and so is k
pub far-same : (p q : Vec) → far_end q (reverse (q ⇀ p)) ≡ far_end p (p ⇀ q)
unfolding far_end
far-same p q = λ i. divided (far_raw (back p.x q.x i) (back p.y q.y i) (k i))
  where
    back : (a b : ℤ) → neg_ℤ (a -ℤ b) ≡ b -ℤ a
    back a b = reify (a ∷ b ∷ []) (λ ρ v. simp (reading, v 0, v 1) (solve _ _ _ tt))

    k : moment q (reverse (q ⇀ p)) ≡ moment p (p ⇀ q)
    k = reify (p.x ∷ p.y ∷ q.x ∷ q.y ∷ []) (λ ρ v. simp (reading, v 0, v 1, v 2, v 3) (solve _ _ _ tt))

pub reversed-ends : (o : Object) → (o.kind ≡ pos 1) ⊎ (o.kind ≡ pos 3)
    → (first_end (reversed o) ≡ last_end o) × (last_end (reversed o) ≡ first_end o)
unfolding first_end last_end
reversed-ends o (inl e) =
    let f = kind-segment o.px o.py o.qx o.qy e in
    let g = kind-segment o.qx o.qy o.px o.py e in
    (ap first_of g ∙ sym (ap last_of f), ap last_of g ∙ sym (ap first_of f))
reversed-ends o (inr e) =
    let f = kind-line o.px o.py o.qx o.qy e in
    let g = kind-line o.qx o.qy o.px o.py e in (
      ap first_of g ∙ far-same (first o) (second o) ∙ sym (ap last_of f),
      ap last_of g ∙ sym (far-same (second o) (first o)) ∙ sym (ap first_of f),
    )

pub reversed_end : (o : Object) → (o.kind ≡ pos 1) ⊎ (o.kind ≡ pos 3) → (e : Point) → is_end (figure (reversed o)) e ≡ is_end (figure o) e
unfolding first_end last_end
reversed_end o k e =
    let r = reversed-ends o k in
    (λ i. is_same_point e (r.0 i) || is_same_point e (r.1 i)) ∙ or_comm (is_same_point e (last_end o)) (is_same_point e (first_end o))

-- ---- its side

pub reversed-side : (o : Object) → (o.kind ≡ pos 1) ⊎ (o.kind ≡ pos 3) → (s : Point) → side_sign (reversed o) s ≡ neg_ℤ (side_sign o s)
reversed-side o (inl e) s =
    side-of-figure (reversed o) s (kind-segment o.qx o.qy o.px o.py e)
    ∙ turn-swap-first (given (first o)) (given (second o)) s
    ∙ sym (ap neg_ℤ (side-of-figure o s (kind-segment o.px o.py o.qx o.qy e)))
reversed-side o (inr e) s =
    side-of-figure (reversed o) s (kind-line o.qx o.qy o.px o.py e)
    ∙ turn-swap-first (given (first o)) (given (second o)) s
    ∙ sym (ap neg_ℤ (side-of-figure o s (kind-line o.px o.py o.qx o.qy e)))
