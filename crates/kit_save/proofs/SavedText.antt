-- The text of a saved file is read again.
use Rattle.std.proofs.Common.{◌≡◌, ℕ, ◌+◌, ◌<◌, ◌≤◌, List, [], ◌∷◌, length, Some, Result, Ok, Err, IfOk, false, refl, sym, ap, subst, ◌∙◌, arith}
use Rattle.std.proofs.lemmas.List.{length-append}
use Rattle.std.specs.Str.{IsUtf8}
use Rattle.serde_json.specs.Data.{Data, depth}
use Rattle.serde_json.specs.Read.{max_depth, read}
use Rattle.serde_json.specs.Written.{has_float, compact_text}
use Rattle.kit_rules.specs.Parts.{Parts}
use Rattle.kit_rules.specs.Federation.{IsFederation}
use Rattle.kit_walk.specs.Answers.{Says}
use Rattle.kit_cut.specs.declared.cut.Cut.{Cut}
use Rattle.kit_cut.specs.ValidCuts.{IsValidCut}
use Rattle.kit_restore.specs.Saved.{saved_walk, IsSaved}
use Rattle.kit_save.specs.Widths.{HasWords}
use Rattle.kit_save.specs.CutWidths.{HasCutWords}
use Rattle.kit_save.specs.CutValues.{saved_value}
use Rattle.kit_save.specs.CutLaws.{IsReadAgain}
use Rattle.kit_save.specs.Text.{saved_text, most_saved}
use Rattle.kit_save.proofs.Newline.{ended, read_ended, utf8_ended}
use Rattle.kit_save.proofs.SavedShape.{saved_whole, saved_shallow}
use Rattle.kit_save.proofs.Cuts.{saved_taken}

-- both walks take the value
both_walk : (p : Parts) (c : Cut) → IsReadAgain p c → saved_walk (saved_value p c) ≡ Ok (p, c)
unfolding saved_walk
both_walk p c again = rw (again.federation, again.cut) refl

-- a JSON text of the value, with a line feed, is a saved file
pub text_is_saved : (p : Parts) (c : Cut) (text : List ℕ) → IsFederation p → HasWords p → IsValidCut p c → HasCutWords c → Says text (saved_value p c) → IsSaved (ended text) (p, c)
text_is_saved p c text is words valid cut_words says =
    (saved_value p c, (utf8_ended text says.0, read_ended text ∙ says.1), both_walk p c (saved_taken p c is words valid cut_words))

-- the line feed makes the file of the text
pub file_of_text : (p : Parts) (c : Cut) (text : List ℕ) → text ≡ compact_text (saved_value p c) → ended text ≡ saved_text p c
unfolding saved_text
file_of_text p c text is = ap ended is

-- and is one byte more than a text that is as long as a file may be
pub file_is_longer : (p : Parts) (c : Cut) (text : List ℕ) → text ≡ compact_text (saved_value p c) → most_saved ≤ length text → most_saved < length (saved_text p c)
file_is_longer p c text is long =
    let whole : length (saved_text p c) ≡ length (ended text) = ap length (sym (file_of_text p c text is)) in
    let one_more : length (ended text) ≡ length text + 1 = length-append text (10 ∷ []) in
    omega (arith, whole, one_more, long)

-- a value that is the saved one is written as its text
pub text_written : {V E : Type 0} (items : V → List ℕ) (p : Parts) (c : Cut) (d : Data) (r : Result V E) → d ≡ saved_value p c → IfOk r (λ b. has_float d ≡ false → items b ≡ compact_text d) → IfOk r (λ b. items b ≡ compact_text (saved_value p c))
text_written items p c d (Ok b) is wrote = wrote (ap has_float is ∙ saved_whole p c) ∙ ap compact_text is
text_written items p c d (Err e) is wrote = tt

-- which says it
pub text_said : {V E : Type 0} (items : V → List ℕ) (p : Parts) (c : Cut) (d : Data) (r : Result V E) → d ≡ saved_value p c → IfOk r (λ b. IsUtf8 (items b)) → IfOk r (λ b. depth d ≤ max_depth → read (items b) ≡ Some d) → IfOk r (λ b. Says (items b) (saved_value p c))
text_said items p c d (Ok b) is utf8 reads = (utf8, reads (subst (λ e. depth e ≤ max_depth) (sym is) (saved_shallow p c)) ∙ ap Some is)
text_said items p c d (Err e) is utf8 reads = tt
