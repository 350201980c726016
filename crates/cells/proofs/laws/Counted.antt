-- With other counts of steps a view is as sound.
use Rattle.step_core.specs.declared.views.PassView.{PassView}
use Rattle.step_core.specs.declared.views.StepCounts.{StepCounts}
use Rattle.cells.specs.Sound.{IsSound}

pub sound_counted : (view : PassView) (made : StepCounts) → IsSound view → IsSound (record view { made = made })
sound_counted view made sound = record {
  facts = sound.facts;
  seat = sound.seat;
  legal = sound.legal;
  used = sound.used;
  blocks = sound.blocks;
  one = sound.one;
  apart = λ at other place word too. sound.apart at other place
      (record { block = word.block; known = word.known; begun = word.begun; within = word.within })
      (record { block = too.block; known = too.known; begun = too.begun; within = too.within });
  rows = sound.rows;
  given = sound.given;
  generations = sound.generations;
  nexts = sound.nexts;
  hands = λ at place word. sound.hands at place (record { begun = word.begun; within = word.within });
  hands_apart = λ at other place word too. sound.hands_apart at other place (record { begun = word.begun; within = word.within })
      (record { begun = too.begun; within = too.within });
  hands_unknown = λ at other place word too. sound.hands_unknown at other place (record { begun = word.begun; within = word.within })
      (record { block = too.block; known = too.known; begun = too.begun; within = too.within });
  lone = sound.lone;
  no_op = sound.no_op;
}
