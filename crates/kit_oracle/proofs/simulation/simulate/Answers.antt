use Rattle.std.proofs.Common.{◌≡◌, ◌∙◌, List, sym, subst}
use Rattle.std.specs.List.{All}
use Rattle.kit_base.specs.declared.history.Line.{Line}
use Rattle.kit_rules.specs.Fits.{LineFits}
use Rattle.kit_rules.specs.Simulation.{simulation, lines_of}
use Rattle.kit_laws.proofs.Fitting.{simulated_fits}
use Rattle.kit_oracle.proofs.simulation.simulate.Goals as goal

pub returns-clause-fits : goal.returns-clause-fits
returns-clause-fits c =
    let p = c.args.federation.now in
    let P : List Line → Type 0 = λ ls. All (LineFits p) ls in
    let e : c.from_vec.result ≡ lines_of (simulation p).blocks = c.from_vec.ensures ∙ c.in_ok-vars.ensures.shows in
    subst P (sym e) (simulated_fits p c.in_ok-vars.ensures.sound)
