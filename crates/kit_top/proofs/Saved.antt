-- What is saved can be read again, and loses nothing.
use Rattle.std.proofs.Common.{◌≡◌, ◌≤◌, ◌<◌, ℕ, List, [], ◌∷◌, ◌++◌, length, Option, Some, None, ap, ap₂, refl, sym, subst, ◌∙◌}
use Rattle.std.specs.List.{flat_map}
use Rattle.kit_base.specs.declared.history.Line.{Line}
use Rattle.kit_rules.specs.Parts.{Parts}
use Rattle.kit_cut.specs.declared.cut.Cut.{Cut}
use Rattle.kit_cut.specs.Cuts.{simulation_cut, spender_by}
use Rattle.kit_restore.specs.Saved.{IsSaved}
use Rattle.kit_save.specs.Text.{saved_text, most_saved}
use Rattle.kit_top.specs.Saving.{IsSavable, save_text}

-- a cut of a simulation whose file was written
pub savable : (p : Parts) (time : ℕ) (c : Cut) (text : List ℕ) → spender_by p time ≡ None → c ≡ simulation_cut p time → text ≡ saved_text p c → length text ≤ most_saved → IsSaved text (p, c) → IsSavable time p
savable p time c text none cut is short again =
    let whole : text ≡ save_text p time = is ∙ ap (saved_text p) cut in
    let L : List ℕ → Type 0 = λ t. length t ≤ most_saved in
    let A : List ℕ → Type 0 = λ t. IsSaved t (p, simulation_cut p time) in
    let B : Cut → Type 0 = λ c. IsSaved text (p, c) in
    record { within = none; short = subst L whole short; again = subst A whole (subst B cut again) }
