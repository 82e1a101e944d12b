-- Every block in turn: what is left stands at the places reached (PutLaws). Assumes nothing.
use Rattle.walk.proofs.PutLaws.{Turns}
use Rattle.walk.proofs.put_elements.Given as goal

abbrev pub invariant-loop-next : goal.invariant-loop-next
invariant-loop-next l = Turns l.converter.policy l.converter.d l.sheet l.lead l.initial.out l.initial.report l.next-end l.out l.report l.next l.to l.at
