-- `write_number` meets its contract: the bytes of one, two or three groups are put one behind the other.
use mathlib.Core.Path.{sym, ap}
use Prim.Native.Nat.{◌+◌, ◌/◌, ◌%◌, ◌≤◌}
use native.Mathlib.Omega.{arith}
use lib.ListN.{length, set, length-set}
use Rattle.sheet.specs.LentLaws.{wrote_one, wrote_as}
use Rattle.number.specs.Number.{group}
use Rattle.number.proofs.GroupsLaws.{number-some}
use Rattle.number.proofs.WritingLaws.{write-one, write_two, write-three, wrote-two-bytes, wrote-three-bytes}
use Rattle.number.proofs.write_number.Goals as goal

-- ---- one group

pub bounds-out-at : goal.bounds-out-at
bounds-out-at c =
    let one : c.args.at + 1 ≤ length c.args.out.now = omega (arith, c.requires.1, ap length (write-one c.args.n (omega arith))) in
    omega (arith, one)

pub returns-then-n-lt-GROUP : goal.returns-then-n-lt-GROUP
returns-then-n-lt-GROUP c =
    let one : c.args.at + 1 ≤ length c.args.out.now = omega (arith, c.requires.1, ap length (write-one c.args.n (omega arith))) in
    wrote_as (wrote_one (omega arith) (omega (arith, one))) (sym (write-one c.args.n (omega arith)))

-- ---- two, or three

pub bounds-out-at-2 : goal.bounds-out-at-2
bounds-out-at-2 c = omega (arith, c.requires.1, number-some c.args.n)

pub bounds-out-at-then-left-lt-GROUP : goal.bounds-out-at-then-left-lt-GROUP
bounds-out-at-then-left-lt-GROUP c =
    let two : c.args.at + 2 ≤ length c.args.out.now = omega (arith, c.requires.1, ap length (write_two c.args.n (omega arith) (omega arith))) in
    omega (arith, two, length-set c.args.out.now c.args.at (group + c.args.n % group))

pub returns-then-left-lt-GROUP : goal.returns-then-left-lt-GROUP
returns-then-left-lt-GROUP c =
    let two : c.args.at + 2 ≤ length c.args.out.now = omega (arith, c.requires.1, ap length (write_two c.args.n (omega arith) (omega arith))) in
    wrote_as (wrote-two-bytes (omega arith) two) (sym (write_two c.args.n (omega arith) (omega arith)))

pub bounds-out-at-3 : goal.bounds-out-at-3
bounds-out-at-3 c =
    let three : c.args.at + 3 ≤ length c.args.out.now = omega (arith, c.requires.1, ap length (write-three c.args.n (omega arith) (omega arith) c.requires.0)) in
    omega (arith, three, length-set c.args.out.now c.args.at (group + c.args.n % group))

pub bounds-out-at-4 : goal.bounds-out-at-4
bounds-out-at-4 c =
    let three : c.args.at + 3 ≤ length c.args.out.now = omega (arith, c.requires.1, ap length (write-three c.args.n (omega arith) (omega arith) c.requires.0)) in
    let first = set c.args.out.now c.args.at (group + c.args.n % group) in
    omega (arith, three, length-set c.args.out.now c.args.at (group + c.args.n % group), length-set first (c.args.at + 1) (group + c.args.n / group % group))

pub returns : goal.returns
returns c =
    let three : c.args.at + 3 ≤ length c.args.out.now = omega (arith, c.requires.1, ap length (write-three c.args.n (omega arith) (omega arith) c.requires.0)) in
    wrote_as (wrote-three-bytes (omega arith) three) (sym (write-three c.args.n (omega arith) (omega arith) c.requires.0))
