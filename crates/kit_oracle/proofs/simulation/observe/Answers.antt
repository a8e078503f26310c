use Rattle.std.proofs.Common.{◌∙◌, List, ap, map, length, rules}
use Rattle.std.proofs.lemmas.List.{length-map}
use Rattle.kit_rules.specs.Simulation.{Seat, simulation}
use Rattle.kit_laws.proofs.Fitting.{simulated_count}
use Rattle.kit_oracle.specs.declared.desk.Desk.{Desk}
use Rattle.kit_oracle.proofs.Progress.{vars_shown, spent_within}
use Rattle.kit_oracle.proofs.simulation.observe.Goals as goal

pub returns-clause-vars : goal.returns-clause-vars
returns-clause-vars g c =
    c.in_ok-vars.ensures ∙ ap (λ (ds : List Desk). map (λ (d : Desk). d.state.vars) ds) (c.deref.ensures.value ∙ c.in_ok-run_all.ensures.desks) ∙ vars_shown c.args.federation.now (simulation c.args.federation.now)

pub returns-clause-each : goal.returns-clause-each
returns-clause-each g c =
    let p = c.args.federation.now in
    ap length (c.in_ok-vars.ensures ∙ ap (λ (ds : List Desk). map (λ (d : Desk). d.state.vars) ds) (c.deref.ensures.value ∙ c.in_ok-run_all.ensures.desks) ∙ vars_shown p (simulation p))
    ∙ length-map (simulation p).seats (λ (s : Seat). s.state.vars) ∙ simulated_count p c.in_ok-desks.ensures.sound

pub returns-in_err-desks-clause-within : goal.returns-in_err-desks-clause-within
returns-in_err-desks-clause-within g c = spent_within c.args.federation.now c.from_residual.result c.in_err-desks.ensures.sound (search rules)

pub returns-in_err-run_all-clause-within : goal.returns-in_err-run_all-clause-within
returns-in_err-run_all-clause-within g c = spent_within c.args.federation.now c.from_residual-in_err-run_all.result c.in_ok-desks.ensures.sound (search rules)
