use Rattle.std.proofs.Common.{◌≡◌, ℕ, min, ap, sym, ◌∙◌, subst}
use Rattle.std.specs.List.{range_with_len}
use Rattle.std.specs.List.Sorted.{IsPermutation}
use Rattle.std.specs.Mem.Slots.{slots_items}
use Rattle.claims.specs.declared.rule.Setup.{Setup}
use Rattle.claims.specs.Tokens.{ClaimsValue, places_in}
use Rattle.claims.proofs.LawEnds.{EndsAt, ends_at, ends_claimed, ends_free, ends_places, ends_covered}
use Rattle.claims.proofs.counter.Claims.finish.Goals as goal
use Rattle.claims.proofs.counter.Claims.finish.Goals.{After-min}

-- the counter is at the last word, and the seats made all draws
ends : (c : After-min) → EndsAt c.args.self.setup c.args.seats.items c.word-word.result
ends c =
    let key = c.self.inside.table.shared.key in
    let seats = c.args.seats.items in
    let seat = c.gathered-seat.result in
    let closed = c.close_with-closed.result in
    let same : key ≡ c.args.self.setup = c.self.invariant.key ∙ ap (λ (v : ClaimsValue). v.setup) c.self.view_is in
    subst (λ (setup : Setup). EndsAt setup seats c.word-word.result) same
    (ends_at key seats seat.id seat.me (slots_items closed.words) (slots_items closed.slots) c.word-word.result
    c.gathered-seat.ensures.seat (c.requires.seats.whole ∙ ap (λ (setup : Setup). setup.seats) (sym same))
    c.close_with-closed.ensures.values.2 c.word-word.ensures)

-- the answer is where it ended, cut at the length
cut : (c : After-min) → c.min.result ≡ min c.word-word.result c.args.self.setup.len
cut c = c.min.ensures ∙ ap (λ (v : ClaimsValue). min c.word-word.result v.setup.len) c.self.view_is

pub returns-clause-answer : goal.returns-clause-answer
returns-clause-answer c = cut c ∙ ap (λ (word : ℕ). min word c.args.self.setup.len) (ends c).drawn

pub returns-clause-claimed : goal.returns-clause-claimed
returns-clause-claimed c place lt =
    ends_claimed c.args.self.setup c.args.seats.items c.word-word.result place (ends c) (rw (cut c) at lt)

pub returns-clause-free : goal.returns-clause-free
returns-clause-free c place past =
    ends_free c.args.self.setup c.args.seats.items c.word-word.result place (ends c) (rw (cut c) at past)

pub returns-clause-covered : goal.returns-clause-covered
returns-clause-covered c spent = cut c ∙ ends_covered c.args.self.setup c.args.seats.items c.word-word.result (ends c) spent

pub returns-clause-places : goal.returns-clause-places
returns-clause-places c =
    subst (λ (reached : ℕ). IsPermutation (range_with_len 0 reached) (places_in c.args.seats.items)) (sym (cut c))
    (ends_places c.args.self.setup c.args.seats.items c.word-word.result (ends c))
