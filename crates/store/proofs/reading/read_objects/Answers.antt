-- `read_objects` meets its contract: the objects that were read, in front of what is left to be read, are all of them.
use mathlib.Core.Path.{◌≡◌, sym, ap, ◌∙◌}
use mathlib.Core.List.{List, [], ◌++◌, append_assoc, append-nil}
use Prim.Native.Nat.{ℕ, ◌≤◌, ◌<◌, ◌+◌, ◌-◌}
use native.Mathlib.Omega.{arith}
use Rattle.std.proofs.Math.Nat.{sub-zero}
use Rattle.std.proofs.lemmas.Bool.Decides.{nat_tests}
use lib.IntN.{ℤ}
use lib.ListN.{length}
use lib.Seq.{sets, length-sets}
use Rattle.sheet.specs.declared.Object.{Object}
use Rattle.sheet.specs.Answers.{object_numbers}
use Rattle.sheet.specs.RefusedLaws.{refused-from}
use Rattle.sheet.specs.Lent.{Wrote}
use Rattle.sheet.specs.LentLaws.{sets-past, wrote_none, wrote-two, wrote-named}
use Rattle.number.specs.Number.{got}
use Rattle.store.specs.declared.Form.{Form}
use Rattle.store.specs.Stored.{Drawing, refused, before, read_object, read_objects}
use Rattle.store.proofs.ObjectsLaws.{objects-step, objects-stop, objects-end, objects-over}
use Rattle.store.proofs.reading.read_objects.Invariants.{behind, Put, Stands}
use Rattle.store.proofs.reading.read_objects.Goals as goal
use Rattle.store.proofs.reading.read_objects.Goals.{then-out-ne0, else-out-ne0}

put-length : {d out front : List ℤ} {to : ℕ} → Put d out to front → length out ≡ length d
put-length {d} {out} {front} p = ap length p.cells ∙ length-sets d 0 front

-- one more piece is put, or there is no cell for it
put-more :
    {d out out' front piece : List ℤ} {to to' : ℕ} → Put d out to front → (length out ≡ 0 → ⊥) → Wrote out out' to to' piece → Put d out' to' (front ++ piece)
put-more p some w =
    let all = wrote-two (p.there (omega (arith, put-length p, some))) w in
    record { cells = all.cells; there = λ _. all }

put-nothing : {d out front : List ℤ} {to : ℕ} (piece : List ℤ) → Put d out to front → length out ≡ 0 → Put d out to (front ++ piece)
put-nothing {d} {out} {front} piece p none =
    let no : length d ≤ 0 = omega (arith, put-length p) in
    record { cells = p.cells ∙ sets-past d front 0 no ∙ sym (sets-past d (front ++ piece) 0 no); there = λ h. absurd (omega arith) }

module _ {f : Form} {count : ℕ} (bs : List ℕ) {d out : List ℤ} (done : ℕ) (rest : List ℕ) {to : ℕ} (s : Stands f count bs d out done rest to) where
  -- one more object is taken
  step : {out' : List ℤ} {o : Object} {rest' : List ℕ} {to' : ℕ} → done < count → got o rest' ≡ read_object f rest
      → Put d out' to' (s.front ++ object_numbers o) → Stands f count bs d out' (done + 1) rest' to'
  step {out'} {o} {rest'} more t p =
      let after = read_objects f (count - (done + 1)) rest' in
      let less : count - done - 1 ≡ count - (done + 1) = omega arith in
      let one = objects-step f (count - done) rest (omega arith) t in
      record {
        front = s.front ++ object_numbers o;
        put = p;
        all =
            (λ i. record { objects = append_assoc s.front (object_numbers o) after.objects i; refusal = after.refusal })
            ∙ ap (behind s.front) (sym (one ∙ ap (λ (k : ℕ). before o (read_objects f k rest')) less))
            ∙ s.all;
      }

  -- no object is taken any more
  stop : {n : ℤ} → read_objects f (count - done) rest ≡ refused n → (n ≡ (read_objects f count bs).refusal) × (out ≡ sets d 0 (read_objects f count bs).objects)
  stop {n} e =
      let is = ap (behind s.front) (sym e) ∙ s.all in (
        ap (λ (x : Drawing). x.refusal) is,
        s.put.cells ∙ ap (sets d 0) (sym (append-nil s.front) ∙ ap (λ (x : Drawing). x.objects) is),
      )

start : {d : List ℤ} → Wrote d d 0 0 [] → Put d d 0 []
start w = record { cells = w.cells; there = λ _. w }

-- the same under other names
named : {d out out' front : List ℤ} {to to' : ℕ} → Put d out to front → out' ≡ out → to' ≡ to → Put d out' to' front
named p e f = record { cells = e ∙ p.cells; there = λ h. wrote-named (p.there h) e f }

-- no object is left
none : (f : Form) {left : ℕ} (rest : List ℕ) {x : Drawing} → left ≡ 0 → read_objects f 0 rest ≡ x → read_objects f left rest ≡ x
none f rest z e = ap (λ (k : ℕ). read_objects f k rest) z ∙ e

pub loop-init : goal.loop-init
loop-init c =
    record {
      front = [];
      put = start (wrote_none (omega arith) (omega arith));
      all = ap (λ (k : ℕ). read_objects c.args.form k c.args.bytes.now) (sub-zero c.args.count);
    }

pub returns-in_err-object : goal.returns-in_err-object
returns-in_err-object c =
    let l = c.loop in
    let a = c.args in
    let rest = l.rest.now in
    let is = stop a.bytes.now l.counter rest l.invariant (objects-stop a.form (a.count - l.counter) rest (omega arith) c.in_err-object.ensures) in
    record { refusal = refused-from _ _ c.from_residual.ensures.1 ∙ is.0; cells = is.1 }

pub loop-preserved : goal.loop-preserved
loop-preserved c =
    let l = c.loop in
    let piece = object_numbers c.in_ok-object.object.value in
    let put : Put c.args.out.now c.if-out-ne0.out c.if-out-ne0.to (l.invariant.front ++ piece) =
    elim c.if-out-ne0.branch [
      | then-out-ne0 w ↦ named (put-more l.invariant.put w.if-out-ne0.true w.put_object-to.ensures) w.out-is w.to-is
      | else-out-ne0 w ↦ named (put-nothing piece l.invariant.put w.if-out-ne0.false) w.out-is w.to-is
    ] in
    step c.args.bytes.now l.counter l.rest.now l.invariant (omega arith) c.in_ok-object.ensures put

pub returns-then-not-is_empty : goal.returns-then-not-is_empty
returns-then-not-is_empty c =
    let l = c.loop in
    let rest = l.rest.now in
    let some : 0 < length rest = grind (arith, nat_tests, c.if-not-is_empty.ensures) in
    let is = stop c.args.bytes.now l.counter rest l.invariant (none c.args.form rest (omega arith) (objects-over c.args.form rest some)) in
    record { refusal = is.0; cells = is.1 }

pub returns : goal.returns
returns c =
    let l = c.loop in
    let rest = l.rest.now in
    let end : length rest ≡ 0 = grind (arith, nat_tests, c.if-not-is_empty.ensures) in
    let is = stop c.args.bytes.now l.counter rest l.invariant (none c.args.form rest (omega arith) (objects-end c.args.form rest end)) in
    record { refusal = is.0; cells = is.1 }
