-- Two answers that meet a function's contract are equal: stated of the contract itself (`Post`), at any arguments. `hand_on`, `read_bytes` and
-- `tell` have no such theorem: what they answer is what the operating system answers.
use mathlib.Core.Path.{◌≡◌, sym, ◌∙◌}
use mathlib.Core.List.{List}
use Prim.Native.Nat.{ℕ}
use lib.IntN.{ℤ}
use contract.Lifetimes.{Lfts}
use denote.Ref.{Bor}
use denote.RattleType.{RattleType}
use denote.Param.Laws.{Laws}
use Rattle.std.specs.Prelude.{Result}
use Rattle.stream.specs.declared.output.Unwritten.{Unwritten}
use Rattle.stream.specs.declared.status.Status.{Status}
use Rattle.stream.proofs.front.Reads as front
use Rattle.stream.proofs.status.status_of.Reads as status-of

pub status-of-answer :
    (sent : Result (Unit {0}) Unwritten) (refusal : ℤ) (r s : Status)
    → status-of.Post tt (sent, (refusal, tt)) r (sent, (refusal, tt)) → status-of.Post tt (sent, (refusal, tt)) s (sent, (refusal, tt)) → r ≡ s
status-of-answer sent refusal r s p q = p ∙ sym q

pub front-answer :
    (T : RattleType) (laws : Laws T) (κs : Lfts 2) (n : ℕ) (items : Bor (List T.Denot)) (r s : ℕ)
    → front.Post T laws κs (n, (items, tt)) r (n, (items, tt)) → front.Post T laws κs (n, (items, tt)) s (n, (items, tt)) → r ≡ s
front-answer T laws κs n items r s p q = p.0 ∙ sym q.0
