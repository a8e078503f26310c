use Rattle.std.proofs.Common.{◌∙◌, ◌≤◌, List, ap, sym, subst, length}
use Rattle.kit_oracle.specs.declared.desk.Desk.{Desk}
use Rattle.kit_rules.specs.Simulation.{world_at_start}
use Rattle.kit_oracle.specs.Desks.{desks_after_messages}
use Rattle.kit_oracle.proofs.Progress.{few_opened, start_shown}
use Rattle.kit_oracle.proofs.opening.open_all.Goals as goal

pub post_all-requires : goal.post_all-requires
post_all-requires c = let P : List Desk → Type 0 = λ xs. length xs ≤ 16 in subst P (sym c.in_ok-desks.ensures.desks) (few_opened c.args.federation.now c.in_ok-desks.ensures.sound)

pub returns-clause-desks : goal.returns-clause-desks
returns-clause-desks c =
    let p = c.args.federation.now in
    c.in_ok-post_all.ensures ∙ ap (λ ms. desks_after_messages p ms c.in_ok-desks.desks.items) (c.deref.ensures.value ∙ c.in_ok-desks.ensures.made)
    ∙ ap (desks_after_messages p (world_at_start p).messages) c.in_ok-desks.ensures.desks ∙ start_shown p c.in_ok-desks.ensures.sound
