use Rattle.std.proofs.Common.{◌≡◌, ℕ, List, length, subst}
use Rattle.kit_file.specs.Names.{itself}
use Rattle.kit_file.specs.SoFar.{IsNewName}
use Rattle.kit_file.proofs.Subscribed.{one_more_group}
use Rattle.kit_file.proofs.subscribers.add_group.Goals as goal

pub returns-clause-kept : goal.returns-clause-kept
returns-clause-kept c =
    let copied = c.in_ok-of.ensures in
    let bytes = c.as_bytes.ensures.value in
    let called : c.in_ok-of.field-0 ≡ c.in_ok-name.name.now = cc in
    let new : IsNewName itself c.args.done.now.groups c.in_ok-name.name.now = subst (λ (xs : List (List ℕ)). IsNewName itself xs c.in_ok-name.name.now) c.as_slice.ensures c.in_ok-name.ensures.given in
    rw (c.in_ok-add.ensures, called) (one_more_group (length c.args.names.now) c.args.group c.args.done.now c.in_ok-name.name.now c.in_ok-more.more
    c.requires.next c.requires.kept new c.in_ok-more.ensures.few c.in_ok-more.ensures.sound)
