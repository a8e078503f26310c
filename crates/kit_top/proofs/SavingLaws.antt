-- A simulation that is saved and resumed loses nothing.
use Rattle.std.proofs.Common.{◌≡◌, ℕ, List, ◌++◌, find, Option, Some, None, ap, ap₂, refl, sym, subst, ◌∙◌}
use Rattle.std.specs.Option.{option_map, option_or}
use Rattle.std.specs.List.{flat_map}
use Rattle.std.proofs.lemmas.Grind.{flat_map-append}
use Rattle.std.proofs.lemmas.List.{append_assoc}
use Rattle.std.proofs.lemmas.List.Folds.{find-append}
use Rattle.kit_base.specs.declared.history.Line.{Line}
use Rattle.kit_base.specs.declared.message.Message.{Message}
use Rattle.kit_rules.specs.Federation.{IsFederation}
use Rattle.kit_rules.specs.Parts.{Parts}
use Rattle.kit_rules.specs.Simulation.{Block, block_lines, closing_vars, is_spent, lines_of, simulation, spender}
use Rattle.kit_rules.specs.Text.{closings_text, line_text}
use Rattle.kit_cut.specs.Cuts.{simulation_cut, world_by}
use Rattle.kit_cut.specs.Laws.{blocks_by, SimulationIsCutInTwo}
use Rattle.kit_cut.specs.Resuming.{resumed, resumed_spender}
use Rattle.kit_restore.specs.Saved.{IsSaved}
use Rattle.kit_top.specs.declared.command.FederationCommand.TheVariants.{Upto}
use Rattle.kit_top.specs.Causes.{text_of}
use Rattle.kit_top.specs.SavingLaws.{RestIsResumed, TextIsCutInTwo}
use Rattle.kit_top.proofs.OneCause.{saved_answers}

-- the lines up to a time and those after it are told one after the other
told_in_two : (p : Parts) (early late : List Block) → flat_map (line_text p) (lines_of (early ++ late)) ≡ flat_map (line_text p) (lines_of early) ++ flat_map (line_text p) (lines_of late)
told_in_two p early late = ap (λ (ls : List Line). flat_map (line_text p) ls) (flat_map-append block_lines early late) ∙ flat_map-append (line_text p) (lines_of early) (lines_of late)

pub text_cut_in_two : SimulationIsCutInTwo → TextIsCutInTwo
text_cut_in_two cut_in_two p time is =
    let cut = cut_in_two p is time in
    let early = blocks_by time (simulation p).blocks in
    let late = resumed p (simulation_cut p time) in
    let told : flat_map (line_text p) (lines_of (simulation p).blocks) ≡ flat_map (line_text p) (lines_of early) ++ flat_map (line_text p) (lines_of late.blocks) =
    ap (λ (bs : List Block). flat_map (line_text p) (lines_of bs)) cut.blocks ∙ told_in_two p early late.blocks in
    ap₂ (λ (a : List ℕ) (vars : List (List ℕ)). a ++ closings_text p.federates vars) told cut.vars
    ∙ append_assoc (flat_map (line_text p) (lines_of early)) (flat_map (line_text p) (lines_of late.blocks)) (closings_text p.federates (closing_vars late))

-- what is found in none of all is found in none of the last
last_none : (xs ys : List Message) → find is_spent (xs ++ ys) ≡ None → find is_spent ys ≡ None
last_none xs ys h = by (find is_spent xs) (sym (find-append is_spent xs ys) ∙ h)
  where
    by : (o : Option Message) → option_or o (find is_spent ys) ≡ None → find is_spent ys ≡ None
    by None e = e
    by (Some m) e = absurd (cc)

none_found : (o : Option Message) → option_map (λ (m : Message). m.sender) o ≡ None → o ≡ None
none_found None e = refl
none_found (Some m) e = absurd (cc)

-- nobody takes number 16,385 after a cut where nobody does in the simulation
nobody_spends_after : SimulationIsCutInTwo → (p : Parts) (time : ℕ) → IsFederation p → spender p ≡ None → resumed_spender p (simulation_cut p time) ≡ None
nobody_spends_after cut_in_two p time is none =
    let cut = cut_in_two p is time in
    let all : find is_spent (simulation p).messages ≡ None = none_found (find is_spent (simulation p).messages) none in
    let parted : find is_spent ((world_by p time).messages ++ (resumed p (simulation_cut p time)).messages) ≡ None = ap (find is_spent) (sym cut.messages) ∙ all in
    ap (option_map (λ (m : Message). m.sender)) (last_none (world_by p time).messages (resumed p (simulation_cut p time)).messages parted)

pub rest_resumed : SimulationIsCutInTwo → RestIsResumed
rest_resumed cut_in_two p time bytes saving resuming s text is none saved h =
    let c = simulation_cut p time in
    let S : List ℕ → Type 0 = λ b. IsSaved b (p, c) in
    let again : IsSaved bytes (p, c) = subst S (sym saved.1) saved.0.again in
    let done = saved_answers bytes p c resuming s text again (nobody_spends_after cut_in_two p time is none) h in
    (done.0, ap (λ (t : List ℕ). text_of (Upto time) p ++ t) done.1 ∙ sym (text_cut_in_two cut_in_two p time is))
