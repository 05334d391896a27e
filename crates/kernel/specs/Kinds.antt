-- The numbers of an accepted object by the tests of their kind. To cite:
--   a-shape                     what figure they are, and what holds of them
--   a-pair, which-side          not a side: p and q are given points that differ; a side: which of the four it is
--   first-side, last-side, first-line, first-given, last-given, last-far   the ends by the kind
--   side-pair                   the side of a figure that is not a frame side
--   side-one, side-two, side-three, side-four   the side of a number, by the code's tests
-- Assumes nothing.
use Rattle.std.specs.Prelude.{◌≡◌, ℤ, pos}
use Rattle.std.proofs.Common.{sym, ◌∙◌, SFits, of_z}
use Rattle.std.proofs.Math.Path.{ap}
use Rattle.std.specs.Int.{w64}
use Rattle.whole.specs.Tests.{ne-eq_z, eq-left, lit-taken}
use Rattle.sheet.specs.declared.Point.{Point}
use Rattle.sheet.specs.Figure.{vec, ◌⇀◌, left, bottom, right, top, Figure, side_of, figure_of}
use Rattle.sheet.specs.Refusal.{refusal_of}
use Rattle.sheet.proofs.RefusalLaws.{Proper, ASide, side-proper, kind-segment, kind-line, kind-side, Shape, a_segment, a_ray, a_line, a_side, shape}
use Rattle.sheet.specs.Points.{given}
use Rattle.sheet.specs.Signs.{turn, side_of_figure}
use Rattle.sheet.specs.Ends.{far_end, reverse, begins, next_side, first_of, last_of}
use Rattle.kernel.specs.Bounds.{Numbers}

module _ {n : ℤ} (f : SFits w64 n) where
  pub side-one : of_z w64 n ≡ 1 → side_of n ≡ left
  unfolding side_of
  side-one e = ap side_of (lit-taken 1 tt f e)

  pub side-two : of_z w64 n ≡ 2 → side_of n ≡ bottom
  unfolding side_of
  side-two e = ap side_of (lit-taken 2 tt f e)

  pub side-three : of_z w64 n ≡ 3 → side_of n ≡ right
  unfolding side_of
  side-three e = ap side_of (lit-taken 3 tt f e)

pub side-four : (n : ℤ) → (of_z w64 n ≡ 1 → ⊥) → (of_z w64 n ≡ 2 → ⊥) → (of_z w64 n ≡ 3 → ⊥) → side_of n ≡ top
unfolding side_of
side-four n a b c =
    simp (ne-eq_z {a = n} {b = pos 1} (eq-left a), ne-eq_z {a = n} {b = pos 2} (eq-left b), ne-eq_z {a = n} {b = pos 3} (eq-left c))

module _ {kind px py qx qy : ℤ} (h : Numbers kind px py qx qy) where
  abbrev figure : Figure
  figure = figure_of kind px py qx qy

  pub first-side : kind ≡ pos 4 → first_of figure ≡ begins (side_of px)
  first-side e = ap first_of (kind-side px py qx qy e)

  pub last-side : kind ≡ pos 4 → last_of figure ≡ begins (next_side (side_of px))
  last-side e = ap last_of (kind-side px py qx qy e)

  pub first-line : kind ≡ pos 3 → first_of figure ≡ far_end (vec px py) (reverse (vec px py ⇀ vec qx qy))
  first-line e = ap first_of (kind-line px py qx qy e)

  pub last-given : kind ≡ pos 1 → last_of figure ≡ given (vec qx qy)
  last-given e = ap last_of (kind-segment px py qx qy e)

  pub which-side : kind ≡ pos 4 → ASide px py qx qy
  which-side e = side-proper px py qx qy (sym (ap (λ (k : ℤ). refusal_of k px py qx qy) e) ∙ h.not_refused)

  pub a-shape : Shape kind px py qx qy
  a-shape = shape h.not_refused

  module _ (s : kind ≡ pos 4 → ⊥) where
    pub a_pair : Proper (vec px py) (vec qx qy)
    a_pair = go a-shape
      where
        go : Shape kind px py qx qy → Proper (vec px py) (vec qx qy)
        go (a_segment k f p) = p
        go (a_ray k f p) = p
        go (a_line k f p) = p
        go (a_side k n f) = absurd (s k)

    pub first-given : (kind ≡ pos 3 → ⊥) → first_of figure ≡ given (vec px py)
    first-given n = go a-shape
      where
        go : Shape kind px py qx qy → first_of figure ≡ given (vec px py)
        go (a_segment k f p) = ap first_of f
        go (a_ray k f p) = ap first_of f
        go (a_line k f p) = absurd (n k)
        go (a_side k m f) = absurd (s k)

    pub last-far : (kind ≡ pos 1 → ⊥) → last_of figure ≡ far_end (vec px py) (vec px py ⇀ vec qx qy)
    last-far n = go a-shape
      where
        go : Shape kind px py qx qy → last_of figure ≡ far_end (vec px py) (vec px py ⇀ vec qx qy)
        go (a_segment k f p) = absurd (n k)
        go (a_ray k f p) = ap last_of f
        go (a_line k f p) = ap last_of f
        go (a_side k m f) = absurd (s k)

    pub side-pair : (t : Point) → side_of_figure figure t ≡ turn (given (vec px py)) (given (vec qx qy)) t
    side-pair t = go a-shape
      where
        by : {f : Figure} → figure ≡ f → side_of_figure figure t ≡ side_of_figure f t
        by e = ap (λ (f : Figure). side_of_figure f t) e

        go : Shape kind px py qx qy → side_of_figure figure t ≡ turn (given (vec px py)) (given (vec qx qy)) t
        go (a_segment k f p) = by f
        go (a_ray k f p) = by f
        go (a_line k f p) = by f
        go (a_side k m f) = absurd (s k)
