-- A generation becomes the head, with the old head as its predecessor and all buckets nil: the generations are a chain still, and the
-- members stay as they were.
use Rattle.std.proofs.Common.{◌≡◌, ◌≢◌, ◌⊎◌, inl, inr, ⊎_elim, ℕ, zero, suc, ◌+◌, ◌≤◌, List, Option, Some, None, refl, sym, ap, ◌∙◌, subst, arith}
use native.Mathlib.Decide.{ℕ_discrete}
use Rattle.arena.proofs.laws.States.{updated-other}
use Rattle.set_model.specs.declared.entry.Entry.{Entry}
use Rattle.step_core.specs.Content.{bucket_of, spot_of}
use Rattle.step_core.specs.Fits.{FollowsAnother, IsClosed, IsChain, KeepsHome, AnnouncesOps, predecessor_of, generation_before}
use Rattle.step_core.specs.Format.{IsNil, row_address}
use Rattle.step_core.specs.Limits.{max_exponent}
use Rattle.step_core.specs.Members.{bucket_cell, live_cell, content_at, is_held, HoldsMembers}
use Rattle.step_core.specs.States.{IsGeneration, IsRow, IsOp}
use Rattle.step_core.specs.declared.published.Published.{Published}
use Rattle.step_core.specs.declared.published.Published.TheVariants.{Generation, Row, Op}
use Rattle.step_core.specs.declared.published.GenerationBlock.{GenerationBlock}
use Rattle.step_core.specs.declared.published.RowBlock.{RowBlock}
use Rattle.step_core.specs.declared.published.OpBlock.{OpBlock}
use Rattle.step_core.proofs.changes.Held.{KeepsOps, block_content}
use Rattle.step_core.proofs.changes.Published.{Publishes, with_block, block_stays, block_there, place_apart, home_stays, has_op_stays, row_before_generation, op_before_generation, generation_before_generation}
use Rattle.step_core.proofs.seen.Held.{bucket_cell-there, live_cell-head, live_cell-predecessor}

-- the generation isn't published yet, and may become the head: it follows the old one, of which no bucket is nil, has one bucket
-- bit more or less, and all its buckets are nil
pub record BecomesHead (head : ℕ) (blocks : ℕ → Option Published) (cells : ℕ → ℕ → ℕ) (at : ℕ) (generation : GenerationBlock)
    : Type 0 where
  pub unpublished : blocks at ≡ None
  pub some_place : at ≢ 0
  pub some_head : head ≢ 0
  pub predecessor : generation.predecessor ≡ head
  pub old : GenerationBlock
  pub here : IsGeneration blocks head old
  pub next : (generation.exponent ≡ old.exponent + 1) ⊎ (old.exponent ≡ generation.exponent + 1)
  pub small : generation.exponent ≤ max_exponent
  pub filled : (spot : ℕ) → ¬ IsNil (cells head (bucket_of old.exponent spot))
  pub nil : (k : ℕ) → IsNil (cells at k)

module _ {head : ℕ} {blocks : ℕ → Option Published} {cells : ℕ → ℕ → ℕ} {at : ℕ} {generation : GenerationBlock}
    (b : BecomesHead head blocks cells at generation) where
  -- it is a publishing
  abbrev pub heading : Publishes blocks at (Generation generation)
  heading = record { unpublished = b.unpublished }

  -- the blocks with it
  abbrev pub with_head : ℕ → Option Published
  with_head = with_block heading

  -- what was published is so still
  pub head_stays : (from : ℕ) (block : Published) → blocks from ≡ Some block → with_head from ≡ Some block
  head_stays = block_stays heading

  -- it is the generation at its place
  pub head_there : IsGeneration with_head at generation
  head_there = block_there heading

  -- a generation was published before, or is the new head
  pub generation_was : (from : ℕ) (other : GenerationBlock) → IsGeneration with_head from other
      → ((from ≡ at) × (generation ≡ other)) ⊎ IsGeneration blocks from other
  generation_was = generation_before_generation heading

  -- the old head is the one there
  old_is : (other : GenerationBlock) → IsGeneration blocks head other → b.old ≡ other
  old_is other here = let both : Some (Generation b.old) ≡ Some (Generation other) = sym b.here ∙ here in cc

  -- another place names the predecessor that it did,
  predecessor_other : (from : ℕ) → from ≢ at → predecessor_of (with_head from) ≡ predecessor_of (blocks from)
  predecessor_other from apart = ap predecessor_of (updated-other blocks at (Some (Generation generation)) from apart)

  -- and the new head names the old one
  pub predecessor_new : predecessor_of (with_head at) ≡ head
  predecessor_new = ap predecessor_of head_there ∙ b.predecessor

  -- a closed bucket is closed still
  closed_stays : (word : ℕ) → IsClosed blocks cells word → IsClosed with_head cells word
  closed_stays word closed = record {
    frozen = closed.frozen;
    settled = λ row here some_op. closed.settled row (row_before_generation heading (row_address word) row here) some_op;
  }

  -- no operation changes
  pub ops_same : KeepsOps blocks cells with_head cells
  ops_same = record {
    stays = λ from op here. head_stays from (Op op) here;
    was = op_before_generation heading;
    result = λ from op here. refl;
  }

  module _ (chain : IsChain head blocks cells) where
    -- no block names the new head as its predecessor
    never_named : (from : ℕ) (block : Option Published) → blocks from ≡ block → predecessor_of block ≢ at
    never_named from None is same = b.some_place (sym same)
    never_named from (Some (Generation other)) is same = elim (ℕ_discrete other.predecessor 0) [
      | yes none ↦ b.some_place (sym same ∙ none)
      | no some_before ↦
          let follows = chain.follows from other is some_before in
          place_apart heading other.predecessor (Generation follows.other) follows.there same
    ]
    never_named from (Some (Row row)) is same = b.some_place (sym same)
    never_named from (Some (Op op)) is same = b.some_place (sym same)

    -- so the generations before the old head are other ones,
    never_before : (count : ℕ) → generation_before blocks head count ≢ at
    unfolding generation_before
    never_before zero = place_apart heading head (Generation b.old) b.here
    never_before (suc count) =
        let from : ℕ = generation_before blocks head count in
        never_named from (blocks from) refl

    -- and stand before the new one, one further
    before_more : (count : ℕ) → generation_before with_head at (suc count) ≡ generation_before blocks head count
    unfolding generation_before
    before_more zero = predecessor_new
    before_more (suc count) =
        let from : ℕ = generation_before blocks head count in
        ap (λ (a : ℕ). predecessor_of (with_head a)) (before_more count) ∙ predecessor_other from (never_before count)

    -- each generation is reached from the new head
    reached_new : (from : ℕ) (other : GenerationBlock) → IsGeneration with_head from other
        → (count : ℕ) × (from ≡ generation_before with_head at count)
    unfolding generation_before
    reached_new from other here = ⊎_elim
        (λ (same : (from ≡ at) × (generation ≡ other)).
        let first : (count : ℕ) × (from ≡ generation_before with_head at count) = (0, same.0) in first)
        (λ (was : IsGeneration blocks from other).
        let reached = chain.reached from other was in
        let more : (count : ℕ) × (from ≡ generation_before with_head at count) =
        (suc reached.0, reached.1 ∙ sym (before_more reached.0)) in more)
        (generation_was from other here)

    -- the new head follows the old one, and the others follow as they did
    follows_new : (from : ℕ) (other : GenerationBlock) → IsGeneration with_head from other → other.predecessor ≢ 0
        → FollowsAnother at with_head other
    follows_new from other here some_before = ⊎_elim
        (λ (same : (from ≡ at) × (generation ≡ other)).
        subst (FollowsAnother at with_head) same.1 (record {
          other = b.old;
          there = subst (λ (a : ℕ). IsGeneration with_head a b.old) (sym b.predecessor) (head_stays head (Generation b.old) b.here);
          not_head = λ is. place_apart heading head (Generation b.old) b.here (sym b.predecessor ∙ is);
          next = b.next;
        }))
        (λ (was : IsGeneration blocks from other).
        let follows = chain.follows from other was some_before in
        record {
          other = follows.other;
          there = head_stays other.predecessor (Generation follows.other) follows.there;
          not_head = place_apart heading other.predecessor (Generation follows.other) follows.there;
          next = follows.next;
        })
        (generation_was from other here)

    -- a bucket is nil at most in the new head
    filled_new : (from : ℕ) (other : GenerationBlock) (spot : ℕ) → IsGeneration blocks from other
        → ¬ IsNil (cells from (bucket_of other.exponent spot))
    filled_new from other spot here = elim (ℕ_discrete from head) [
      | yes same ↦
          let is : b.old ≡ other = old_is other (subst (λ (a : ℕ). IsGeneration blocks a other) same here) in
          subst (λ (word : ℕ). ¬ IsNil word) (λ i. cells (sym same i) (bucket_of (is i).exponent spot)) (b.filled spot)
      | no apart ↦ chain.filled from other spot here (inl apart)
    ]

    -- a bucket of a generation before the old head is closed
    older_closed : (from : ℕ) (other : GenerationBlock) (spot : ℕ) → IsGeneration blocks from other → from ≢ head
        → IsClosed blocks cells (cells from (bucket_of other.exponent spot))
    older_closed from other spot here apart = elim (ℕ_discrete from (predecessor_of (blocks head))) [
      | yes before ↦
          let is : from ≡ b.old.predecessor = before ∙ ap predecessor_of b.here in
          subst (λ (a : ℕ). IsClosed blocks cells (cells a (bucket_of other.exponent spot))) (sym is)
          (chain.sources b.old other spot b.here (subst (λ (a : ℕ). IsGeneration blocks a other) is here) (b.filled spot))
      | no older ↦ chain.older from other spot here apart older
    ]

    -- The generations are a chain still.
    pub chain_headed : IsChain at with_head cells
    chain_headed = record {
      head_there = (generation, head_there);
      reached = reached_new;
      follows = follows_new;
      small = λ from other here. ⊎_elim
          (λ (same : (from ≡ at) × (generation ≡ other)). subst (λ (g : GenerationBlock). g.exponent ≤ max_exponent) same.1 b.small)
          (λ (was : IsGeneration blocks from other). chain.small from other was)
          (generation_was from other here);
      mutable = λ k. let nil = b.nil k in omega (arith, nil);
      filled = λ from other spot here first. ⊎_elim
          (λ (same : (from ≡ at) × (generation ≡ other)). absurd (⊎_elim
          (λ (apart : from ≢ at). apart same.0)
          (λ (none : other.predecessor ≡ 0).
          b.some_head (sym b.predecessor ∙ ap (λ (g : GenerationBlock). g.predecessor) same.1 ∙ none))
          first))
          (λ (was : IsGeneration blocks from other). filled_new from other spot was)
          (generation_was from other here);
      names = λ from other spot here some_word. ⊎_elim
          (λ (same : (from ≡ at) × (generation ≡ other)).
          absurd (some_word (ap (λ (a : ℕ). cells a (bucket_of other.exponent spot)) same.0 ∙ b.nil (bucket_of other.exponent spot))))
          (λ (was : IsGeneration blocks from other).
          home_stays heading (row_address (cells from (bucket_of other.exponent spot))) other spot
          (chain.names from other spot was some_word))
          (generation_was from other here);
      older = λ from other spot here not_head not_before. ⊎_elim
          (λ (same : (from ≡ at) × (generation ≡ other)). absurd (not_head same.0))
          (λ (was : IsGeneration blocks from other).
          closed_stays (cells from (bucket_of other.exponent spot))
          (older_closed from other spot was (λ is. not_before (is ∙ sym predecessor_new))))
          (generation_was from other here);
      sources = λ first other spot here there some_word. absurd (some_word (b.nil (bucket_of first.exponent spot)));
    }

    -- the new head shows nil for each spot
    new_nil : (spot : ℕ) → IsNil (bucket_cell with_head cells at spot)
    new_nil spot = bucket_cell-there at with_head cells at spot generation head_there ∙ b.nil (bucket_of generation.exponent spot)

    -- the old one shows its bucket, before and after
    old_cell : (spot : ℕ) → bucket_cell blocks cells head spot ≡ cells head (bucket_of b.old.exponent spot)
    old_cell spot = bucket_cell-there head blocks cells head spot b.old b.here

    old_cell_after : (spot : ℕ) → bucket_cell with_head cells head spot ≡ cells head (bucket_of b.old.exponent spot)
    old_cell_after spot = bucket_cell-there at with_head cells head spot b.old (head_stays head (Generation b.old) b.here)

    -- so the live word of each spot is that of the old head, as it was
    pub live_same : (spot : ℕ) → live_cell at with_head cells spot ≡ live_cell head blocks cells spot
    live_same spot =
        live_cell-predecessor at with_head cells spot (new_nil spot)
        ∙ ap (λ (from : ℕ). bucket_cell with_head cells from spot) predecessor_new
        ∙ old_cell_after spot
        ∙ sym (old_cell spot)
        ∙ sym (live_cell-head head blocks cells spot (subst (λ (word : ℕ). ¬ IsNil word) (sym (old_cell spot)) (b.filled spot)))

    -- it names a row that was published
    live_there : (spot : ℕ) → row_address (live_cell head blocks cells spot) ≢ at
    live_there spot =
        let word : ℕ = cells head (bucket_of b.old.exponent spot) in
        let home = chain.names head b.old spot b.here (b.filled spot) in
        let live : live_cell head blocks cells spot ≡ word =
        live_cell-head head blocks cells spot (subst (λ (word : ℕ). ¬ IsNil word) (sym (old_cell spot)) (b.filled spot)) ∙ old_cell spot in
        subst (λ (w : ℕ). row_address w ≢ at) (sym live) (place_apart heading (row_address word) (Row home.row) home.here)

    -- Each key is held where it was.
    pub held_headed : (key : ℕ) → is_held at with_head cells key ≡ is_held head blocks cells key
    held_headed key =
        let address : ℕ = row_address (live_cell head blocks cells (spot_of key)) in
        ap (λ (word : ℕ). content_at with_head cells (with_head (row_address word)) key) (live_same (spot_of key))
        ∙ ap (λ (block : Option Published). content_at with_head cells block key)
        (updated-other blocks at (Some (Generation generation)) address (live_there (spot_of key)))
        ∙ block_content ops_same (blocks address) key

    -- The members stay as they were.
    pub members_headed : (keys : List ℕ) (history : List Entry) → HoldsMembers keys head blocks cells history
        → HoldsMembers keys at with_head cells history
    members_headed keys history holds key = held_headed key ∙ holds key

  -- each row is at home
  pub homes_headed : ((from : ℕ) (row : RowBlock) → IsRow blocks from row → KeepsHome blocks row)
      → (from : ℕ) (row : RowBlock) → IsRow with_head from row → KeepsHome with_head row
  homes_headed homes from row here =
      let home = homes from row (row_before_generation heading from row here) in
      record { holds = home.holds; op = λ some_op. has_op_stays heading row (home.op some_op) }

  -- Announced operations are published still.
  pub announces_headed : (seats : ℕ) (announced : ℕ → ℕ) → AnnouncesOps seats announced blocks cells
      → AnnouncesOps seats announced with_head cells
  announces_headed seats announced announces = record {
    ops = λ from op here. announces.ops from op (op_before_generation heading from op here);
    words = λ pass lt. ⊎_elim (λ (none : announced pass ≡ 0). inl none)
        (λ (is : (op : OpBlock) × IsOp blocks (announced pass) op). inr (is.0, head_stays (announced pass) (Op is.0) is.1))
        (announces.words pass lt);
  }
