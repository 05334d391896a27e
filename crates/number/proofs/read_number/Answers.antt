-- `read_number` meets its contract: each way out is what the definition reads of such bytes (specs/ReadingLaws).
use mathlib.Core.Path.{◌≡◌, sym, ap, ◌∙◌}
use mathlib.Core.List.{List}
use Prim.Native.Nat.{ℕ, ◌-◌, ◌≤◌, ◌<◌}
use native.Mathlib.Omega.{arith}
use lib.ListN.{length, get_or, drop, length-drop}
use Rattle.std.specs.Prelude.{Ok}
use Rattle.number.specs.Number.{group, got, read_number, number_of, number_says}
use Rattle.number.proofs.ReadingLaws.{both-less, read_none, read_one, read-cut-2, read-two, read-zero-2, not_last, read-cut-3, read-three, read-wrong-3}
use Rattle.number.proofs.read_number.Goals as goal

said-got :
    (bs : List ℕ) {n : ℕ} (size : ℕ) → read_number bs ≡ got n (drop size bs) → size ≤ length bs
    → number_says (Ok (record { value = n; size = size })) ≡ number_of bs (read_number bs)
said-got bs {n} size e h =
    let taken : size ≡ length bs - length (drop size bs) = omega (arith, length-drop size bs) in
    ap (λ (k : ℕ). number_says (Ok (record { value = n; size = k }))) taken ∙ ap (number_of bs) (sym e)

pub returns-then-bytes-eq0-clause-told : goal.returns-then-bytes-eq0-clause-told
returns-then-bytes-eq0-clause-told c =
    let bs = c.args.bytes.now in
    ap (number_of bs) (sym (read_none bs (omega (arith, c.if-bytes-eq0.true))))

pub returns-then-first-lt-GROUP-clause-told : goal.returns-then-first-lt-GROUP-clause-told
returns-then-first-lt-GROUP-clause-told c =
    let bs = c.args.bytes.now in
    said-got bs 1 (read_one bs (omega arith) (omega arith)) (omega arith)

pub returns-then-bytes-eq1-clause-told : goal.returns-then-bytes-eq1-clause-told
returns-then-bytes-eq1-clause-told c =
    let bs = c.args.bytes.now in
    ap (number_of bs) (sym (read-cut-2 bs (omega arith) (omega (arith, c.if-bytes-eq1.true))))

pub returns-then-second-clause-told : goal.returns-then-second-clause-told
returns-then-second-clause-told c =
    let bs = c.args.bytes.now in
    let b = get_or bs 1 0 in
    let second = both-less 0 b b group c.if-second.true in
    let long : 1 < length bs = omega arith in
    said-got bs 2 (read-two bs (omega arith) long second.0 second.1) (omega arith)

pub returns-then-second-eq0-clause-told : goal.returns-then-second-eq0-clause-told
returns-then-second-eq0-clause-told c =
    let bs = c.args.bytes.now in
    let long : 1 < length bs = omega arith in
    ap (number_of bs) (sym (read-zero-2 bs (omega arith) long (omega (arith, c.if-second-eq0.true))))

pub returns-then-bytes-eq2-clause-told : goal.returns-then-bytes-eq2-clause-told
returns-then-bytes-eq2-clause-told c =
    let bs = c.args.bytes.now in
    let top = not_last (get_or bs 1 0) (omega (arith, c.if-second-eq0.false)) c.if-second.false in
    ap (number_of bs) (sym (read-cut-3 bs (omega arith) top (omega (arith, c.if-bytes-eq2.true))))

pub returns-then-third-clause-told : goal.returns-then-third-clause-told
returns-then-third-clause-told c =
    let bs = c.args.bytes.now in
    let third = both-less 0 (get_or bs 2 0) (get_or bs 2 0) group c.if-third.true in
    let top = not_last (get_or bs 1 0) (omega (arith, c.if-second-eq0.false)) c.if-second.false in
    let long : 2 < length bs = omega arith in
    said-got bs 3 (read-three bs (omega arith) top long third.0 third.1) (omega arith)

pub returns-clause-told : goal.returns-clause-told
returns-clause-told c =
    let bs = c.args.bytes.now in
    let top = not_last (get_or bs 1 0) (omega (arith, c.if-second-eq0.false)) c.if-second.false in
    let long : 2 < length bs = omega arith in
    ap (number_of bs) (sym (read-wrong-3 bs (omega arith) top long c.if-third.false))
