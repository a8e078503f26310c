use Rattle.std.proofs.Common.{ap, sym, ◌∙◌, ◌+◌, ◌++◌, List, [], ◌∷◌, map, arith}
use Rattle.std.proofs.lemmas.List.FromFn.{map-range_with_len_more}
use Rattle.std.specs.List.{range_with_len}
use Rattle.kit_base.specs.declared.message.Message.{Message}
use Rattle.kit_rules.specs.Own.{past_message}
use Rattle.kit_rules.proofs.own.past_sends.Goals as goal

pub loop-place-preserved : goal.loop-place-preserved
loop-place-preserved c =
    c.in_ok-push.ensures.items
    ∙ ap (λ (l : List Message). l ++ c.past_message.result ∷ []) c.loop-place.invariant
    ∙ ap (λ (m : Message). map (past_message c.args.federate) (range_with_len 1 c.loop-place.place) ++ m ∷ []) c.past_message.ensures
    ∙ sym (map-range_with_len_more (past_message c.args.federate) 1 c.loop-place.place (c.loop-place.place + 1) (omega arith))
