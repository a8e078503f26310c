use Rattle.std.proofs.Common.{◌∙◌, List, ap}
use Rattle.std.specs.List.{flat_map}
use Rattle.kit_base.specs.declared.history.Line.{Line}
use Rattle.kit_rules.specs.Simulation.{lines_of}
use Rattle.kit_rules.specs.Text.{line_text}
use Rattle.kit_top.proofs.answers.upto_text.Goals as goal

-- the lines of the world by a time are those of the simulation's grants of that time or earlier
pub returns-clause-text : goal.returns-clause-text
returns-clause-text c =
    let p = c.args.federation.now in
    let cut = c.simulation_is_cut_in_two.ensures p c.keeps_its_limits.ensures c.args.time in
    c.in_ok-text.ensures ∙ ap (λ (ls : List Line). flat_map (line_text p) ls) (c.deref.ensures.value ∙ c.in_ok-_cut.ensures.lines ∙ ap lines_of cut.upto)
