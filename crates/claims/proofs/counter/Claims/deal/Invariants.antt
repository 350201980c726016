use Rattle.claims.proofs.LawDealing.{IsDealt}
use Rattle.claims.proofs.counter.Claims.deal.Given as goal

-- so many seats are dealt, and the first seat has the other parts
abbrev pub invariant-loop : goal.invariant-loop
invariant-loop l = IsDealt l.self l.counter l.seat.table_id l.seat.me l.dealt.items
