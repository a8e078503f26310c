use Rattle.std.proofs.Common.{◌∙◌, List, ap, map}
use Rattle.kit_oracle.specs.declared.desk.Desk.{Desk}
use Rattle.kit_cut.specs.Resuming.{resumed}
use Rattle.kit_cut.proofs.Onward.{vars_shown_since}
use Rattle.kit_cut.proofs.resume.resume_from.Goals as goal

pub returns-clause-vars : goal.returns-clause-vars
returns-clause-vars c =
    let p = c.args.federation.now in
    let cut = c.args.cut.now in
    c.in_ok-vars.ensures ∙ ap (λ (ds : List Desk). map (λ (d : Desk). d.state.vars) ds) (c.deref.ensures.value ∙ c.in_ok-run_on.ensures.desks) ∙ vars_shown_since p cut (resumed p cut)
