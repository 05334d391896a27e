-- The laws of spans that are scanned, and of blocks of them. To cite:
--   same-told, other-told       two flags of which the code asks whether they differ
--   before_more                 what holds before k and at k holds before k + 1
--   widened-first, widened-up, widened-down   the second of two numbers; one that is not less than either, or not more
--   InBlock, block_more, blocks-of   the blocks of the objects before j, as they are filled
--   scanned, scanned-blocks     what is so before a scan and in it; and then in the blocks behind it
-- Assumes nothing.
use Rattle.std.specs.Prelude.{◌≡◌, refl, Bool, true, false, not, ◌&&◌, List, ℕ, ◌+◌, ◌-◌, ◌*◌, ◌/◌, ◌%◌, ◌<◌, ◌≤◌, ltb, length, set}
use Rattle.std.proofs.Common.{sym, ap, subst, ◌∙◌, true≢false, arith, lt_of_not-le, lt-ltb, le-ltb, ltb-true, ltb-false, get_or-set_same, get_or-set_other}
use Rattle.std.specs.Bool.{beq}
use Rattle.std.proofs.Math.Decide.{dec_le}
use Rattle.listing.specs.declared.spans.Span.{Span}
use Rattle.listing.specs.Order.{span_at}
use Rattle.listing.specs.Spans.{near_span, Scan, block_size, Blocks, Beyond, up, down, Widened, BlockEnd}

-- ---- flags

pub same-told : (a b : Bool) → not (beq a b) ≡ false → a ≡ b
same-told true true e = refl
same-told true false e = absurd (true≢false e)
same-told false true e = absurd (true≢false e)
same-told false false e = refl

pub other-told : (a b : Bool) → not (beq a b) ≡ true → a ≡ not b
other-told true true e = absurd (true≢false (sym e))
other-told true false e = refl
other-told false true e = refl
other-told false false e = absurd (true≢false (sym e))

-- ---- one place more

pub before_more : (P : ℕ → Type 0) {k : ℕ} → ((j : ℕ) → j < k → P j) → P k → (j : ℕ) → j < k + 1 → P j
before_more P {k} f p j h = go (dec_le k j)
  where
    go : Dec (k ≤ j) → P j
    go (yes m) = let e : k ≡ j = omega arith in subst P e p
    go (no m) = f j (lt_of_not-le m)

-- ---- the larger or the smaller of two numbers

beyond-self : (larger : Bool) (a : ℕ) → Beyond larger a a
beyond-self true a = let h : a ≤ a = omega arith in up h
beyond-self false a = let h : a ≤ a = omega arith in down h

beyond-trans : {larger : Bool} {a b c : ℕ} → Beyond larger a b → Beyond larger b c → Beyond larger a c
beyond-trans {a = a} {c = c} (up h) (up k) = let e : a ≤ c = omega arith in up e
beyond-trans {a = a} {c = c} (down h) (down k) = let e : c ≤ a = omega arith in down e

module _ {larger first : Bool} {old new : ℕ} where
  pub widened-first : first ≡ true → Widened larger first old new new
  widened-first e = record { has_new = beyond-self larger new; has_old = λ f. absurd (true≢false (sym e ∙ f)) }

  pub widened-up : {r : ℕ} → larger ≡ true → old ≤ r → new ≤ r → Widened larger first old new r
  widened-up {r} e h k = subst (λ (larger : Bool). Widened larger first old new r) (sym e) (record { has_new = up k; has_old = λ f. up h })

  pub widened-down : {r : ℕ} → larger ≡ false → r ≤ old → r ≤ new → Widened larger first old new r
  widened-down {r} e h k = subst (λ (larger : Bool). Widened larger first old new r) (sym e) (record { has_new = down k; has_old = λ f. down h })

-- ---- blocks

-- the numbers of a block do not pass those of object k, where it is so only if every object is
pub record InBlock (is : Bool) (spans blocks : List Span) (k : ℕ) : Type 0 where
  pub low : Beyond is (span_at spans k).low (span_at blocks (k / block_size)).low
  pub high : Beyond (not is) (span_at spans k).high (span_at blocks (k / block_size)).high

-- by the two tests of `near_span`: of a span and of its block
near-tells :
    (is : Bool) (a s b : Span) → Beyond is s.low b.low → Beyond (not is) s.high b.high → near_span a b ≡ is → near_span a s ≡ is
near-tells true a s b (up h) (down k) e = go (ltb a.high b.low) (ltb b.high a.low) (ltb-false a.high b.low) (ltb-false b.high a.low) e
  where
    go : (t u : Bool) → (t ≡ false → b.low ≤ a.high) → (u ≡ false → a.low ≤ b.high) → not t && not u ≡ true → near_span a s ≡ true
    go true u f g e = absurd (true≢false (sym e))
    go false true f g e = absurd (true≢false (sym e))
    go false false f g e =
        let x = f refl in
        let y = g refl in
        let p : s.low ≤ a.high = omega arith in
        let q : a.low ≤ s.high = omega arith in
        simp (le-ltb a.high s.low p, le-ltb s.high a.low q)
near-tells false a s b (down h) (up k) e = go (ltb a.high b.low) (ltb b.high a.low) (ltb-true a.high b.low) (ltb-true b.high a.low) e
  where
    go : (t u : Bool) → (t ≡ true → a.high < b.low) → (u ≡ true → b.high < a.low) → not t && not u ≡ false → near_span a s ≡ false
    go true u f g e =
        let x = f refl in
        let p : a.high < s.low = omega arith in
        simp (lt-ltb a.high s.low p)
    go false true f g e =
        let y = g refl in
        let q : s.high < a.low = omega arith in
        by (ltb a.high s.low) (lt-ltb s.high a.low q)
      where
        by : (t : Bool) → ltb s.high a.low ≡ true → not t && not (ltb s.high a.low) ≡ false
        by true z = refl
        by false z = simp z
    go false false f g e = absurd (true≢false e)

pub blocks-of : {is : Bool} {spans blocks : List Span} {n : ℕ} → ((j : ℕ) → j < n → j / block_size < length blocks)
    → ((j : ℕ) → j < n → InBlock is spans blocks j) → Blocks is spans blocks n
blocks-of {is} {spans} {blocks} long h = record {
  long = long;
  each = λ a j k e. near-tells is a (span_at spans j) (span_at blocks (j / block_size)) (h j k).low (h j k).high e;
}

-- one object more: the two numbers of its block are widened, anew where it is the first one
module _ (is : Bool) (spans blocks : List Span) (j : ℕ) (b : Span) where
  abbrev block : ℕ
  block = j / block_size

  abbrev after : List Span
  after = set blocks block b

  pub block_more : block < length blocks → {first : Bool} → (first ≡ true → j % block_size ≡ 0)
      → Widened is first (span_at blocks block).low (span_at spans j).low b.low → Widened (not is) first (span_at blocks block).high (span_at spans j).high b.high
      → ((k : ℕ) → k < j → InBlock is spans blocks k) → (k : ℕ) → k < j + 1 → InBlock is spans after k
  block_more room {first} one v w held = before_more (InBlock is spans after) old new
    where
      here : (k : ℕ) → k / block_size ≡ block → span_at after (k / block_size) ≡ b
      here k e = ap (span_at after) e ∙ get_or-set_same blocks block b _ room

      new : InBlock is spans after j
      new = record {
        low = subst (λ (c : Span). Beyond is (span_at spans j).low c.low) (sym (here j refl)) v.has_new;
        high = subst (λ (c : Span). Beyond (not is) (span_at spans j).high c.high) (sym (here j refl)) w.has_new;
      }

      same_block : (k : ℕ) → k < j → k / block_size ≡ block → first ≡ false
      same_block k h e = go first refl
        where
          go : (t : Bool) → first ≡ t → first ≡ false
          go false q = q
          go true q = let z = one q in absurd (omega arith)

      old : (k : ℕ) → k < j → InBlock is spans after k
      old k h = go (dec_le block (k / block_size))
        where
          go : Dec (block ≤ k / block_size) → InBlock is spans after k
          go (yes m) =
              let e : k / block_size ≡ block = omega arith in
              let f = same_block k h e in
              let x = subst (λ (c : ℕ). Beyond is (span_at spans k).low (span_at blocks c).low) e (held k h).low in
              let y = subst (λ (c : ℕ). Beyond (not is) (span_at spans k).high (span_at blocks c).high) e (held k h).high in
              record {
                low = subst (λ (c : Span). Beyond is (span_at spans k).low c.low) (sym (here k e)) (beyond-trans x (v.has_old f));
                high = subst (λ (c : Span). Beyond (not is) (span_at spans k).high c.high) (sym (here k e)) (beyond-trans y (w.has_old f));
              }
          go (no m) =
              let less = lt_of_not-le m in
              let e : span_at after (k / block_size) ≡ span_at blocks (k / block_size) = get_or-set_other blocks block (k / block_size) b _ (λ e. absurd (omega arith)) in
              record {
                low = subst (λ (c : Span). Beyond is (span_at spans k).low c.low) (sym e) (held k h).low;
                high = subst (λ (c : Span). Beyond (not is) (span_at spans k).high c.high) (sym e) (held k h).high;
              }

-- ---- a scan

-- what is so before j and from j on before r is so before r
pub scanned :
    {a : Span} {is : Bool} {spans : List Span} {from n j to r : ℕ}
    → ((k : ℕ) → from ≤ k → k < j → k < n → near_span a (span_at spans k) ≡ is) → Scan a is spans j to r
    → (k : ℕ) → from ≤ k → k < r → k < n → near_span a (span_at spans k) ≡ is
scanned {a} {is} {spans} {j = j} f x k low high d = go (dec_le j k)
  where
    go : Dec (j ≤ k) → near_span a (span_at spans k) ≡ is
    go (yes m) = x.so k m high
    go (no m) = f k low (lt_of_not-le m) d

-- and then that of the blocks from the next one on
pub scanned-blocks :
    {a : Span} {is : Bool} {spans blocks : List Span} {n j from to end next count r : ℕ} → BlockEnd j n end → next ≡ (end + (block_size - 1)) / block_size
    → ((k : ℕ) → from ≤ k → k < to → k < n → near_span a (span_at spans k) ≡ is) → end ≤ to
    → Blocks is spans blocks n → Scan a is blocks next count r
    → (k : ℕ) → from ≤ k → k < r * block_size → k < n → near_span a (span_at spans k) ≡ is
scanned-blocks {a} {is} {spans} {to = to} {end = end} e q f h b x k low m d = go (dec_le end k)
  where
    go : Dec (end ≤ k) → near_span a (span_at spans k) ≡ is
    go (yes g) = b.each a k d (x.so (k / block_size) (omega (arith, e.next k g d)) (omega arith))
    go (no g) = let less = lt_of_not-le g in f k low (omega arith) d
