use Rattle.std.proofs.Common.{rules, ◌≡◌, ◌∙◌, ◌≤◌, List, All, ap, sym, subst, length, Some}
use Rattle.kit_base.specs.declared.history.Line.{Line}
use Rattle.kit_oracle.specs.declared.desk.Desk.{Desk}
use Rattle.kit_oracle.specs.Ends.{IfSpent}
use Rattle.kit_rules.specs.Fits.{LineFits}
use Rattle.kit_rules.specs.Simulation.{start_spender}
use Rattle.kit_cut.specs.declared.cut.Cut.{Cut}
use Rattle.kit_cut.specs.Desks.{cut_of_desks}
use Rattle.kit_cut.specs.Cuts.{world_by, simulation_cut, spender_by}
use Rattle.kit_cut.specs.ValidCuts.{IsValidCut}
use Rattle.kit_cut.proofs.ByTime.{by_each, by_by_end, cut_shown, fits_by, spent_at_start, spent_weaker}
use Rattle.kit_cut.proofs.Validity.{cuts_are_valid}
use Rattle.kit_cut.proofs.cutting.cut_at.Goals as goal

pub returns-in_err-desks-clause-spent : goal.returns-in_err-desks-clause-spent
returns-in_err-desks-clause-spent c =
    let p = c.args.federation.now in
    let h : IfSpent c.from_residual.result (λ i. start_spender p ≡ Some i) = search rules in
    spent_weaker c.from_residual.result (λ i. start_spender p ≡ Some i) (λ i. spender_by p c.args.time ≡ Some i) (λ i. spent_at_start p c.args.time i) h

pub cut_of_desks-requires-clause-each : goal.cut_of_desks-requires-clause-each
cut_of_desks-requires-clause-each c = ap length c.in_ok-run_upto.ensures.desks ∙ by_each c.args.federation.now c.args.time c.in_ok-desks.ensures.sound

pub cut_of_desks-requires-clause-now : goal.cut_of_desks-requires-clause-now
cut_of_desks-requires-clause-now c =
    let p = c.args.federation.now in
    let P : List Desk → Type 0 = All (λ (d : Desk). d.now ≤ p.end) in
    subst P (sym c.in_ok-run_upto.ensures.desks) (by_by_end p c.args.time c.in_ok-desks.ensures.sound)

pub returns-clause-cut : goal.returns-clause-cut
returns-clause-cut c =
    let p = c.args.federation.now in
    c.in_ok-cut.ensures ∙ ap (cut_of_desks p c.args.time) c.in_ok-run_upto.ensures.desks ∙ cut_shown p c.args.time (world_by p c.args.time)

pub returns-clause-valid : goal.returns-clause-valid
returns-clause-valid c =
    let p = c.args.federation.now in
    let V : Cut → Type 0 = IsValidCut p in
    let is : c.in_ok-cut.cut ≡ simulation_cut p c.args.time = c.in_ok-cut.ensures ∙ ap (cut_of_desks p c.args.time) c.in_ok-run_upto.ensures.desks ∙ cut_shown p c.args.time (world_by p c.args.time) in
    subst V (sym is) (cuts_are_valid p c.in_ok-desks.ensures.sound c.args.time c.in_ok-run_upto.ensures.none)

pub returns-clause-fits : goal.returns-clause-fits
returns-clause-fits c =
    let p = c.args.federation.now in
    let P : List Line → Type 0 = λ ls. All (LineFits p) ls in
    subst P (sym c.in_ok-run_upto.ensures.lines) (fits_by p c.args.time c.in_ok-desks.ensures.sound)
