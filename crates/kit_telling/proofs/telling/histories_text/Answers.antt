use Rattle.std.proofs.Common.{ℕ, List, subst}
use Rattle.kit_telling.specs.Tellings.{AreTold}
use Rattle.kit_telling.proofs.Nodes.{whole_text}
use Rattle.kit_telling.proofs.telling.histories_text.Goals as goal

pub returns : goal.returns
returns c =
    let p = c.args.federation.now in
    let nodes = c.args.nodes.now in
    let told : List ℕ = c.tell_lines.new.text.items in
    let P : List ℕ → Type 0 = λ before. AreTold p nodes before told in
    whole_text c.whole_parts_merge.ensures p c.keeps_its_limits.ensures nodes c.requires told c.tell_closings.new.text.items (subst P c.in_ok-text.ensures.items c.in_ok-tell_lines.ensures) c.in_ok-tell_closings.ensures
