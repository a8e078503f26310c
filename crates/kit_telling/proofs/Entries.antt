-- What entries tell of a federate, entry by entry.
use Rattle.std.proofs.Common.{◌≡◌, ℕ, zero, suc, ◌+◌, ◌-◌, ◌≤◌, List, [], ◌∷◌, ◌++◌, length, drop, refl, ap, ◌∙◌, arith}
use Rattle.std.specs.List.{AllByRecursion}
use Rattle.std.proofs.lemmas.List.{drop-drop, length-drop}
use Rattle.kit_base.specs.declared.history.Line.{Line}
use Rattle.kit_rules.specs.Fits.{LineFits}
use Rattle.kit_rules.specs.Parts.{Parts}
use Rattle.kit_model.specs.declared.journal.JournalEntry.{JournalEntry}
use Rattle.kit_model.specs.declared.journal.JournalEntry.TheVariants.{Received, Delivered, Granted}
use Rattle.kit_model.specs.Journals.{line_told, lines_told}
use Rattle.kit_report.specs.Merges.{behind_grant, first_grant_time, through_grant}
use Rattle.kit_telling.specs.Tellings.{first_time, last_entries, lines_text}

-- the time of the first line
pub first_told : (i : ℕ) (es : List JournalEntry) → first_grant_time (lines_told i es) ≡ first_time es
first_told i [] = refl
first_told i (Received m ∷ es) = first_told i es
first_told i (Delivered granted m ∷ es) = refl
first_told i (Granted t ∷ es) = refl

-- what holds of two lists together holds of the second
pub all_back : {X : Type 0} (P : X → Type 0) (xs ys : List X) → AllByRecursion P (xs ++ ys) → AllByRecursion P ys
all_back P [] ys h = h
all_back P (x ∷ xs) ys h = all_back P xs ys h.1

-- what holds of the lines holds of those that are left
pub fits_rest : (P : Line → Type 0) (i n : ℕ) (es : List JournalEntry) → AllByRecursion P (lines_told i es) → AllByRecursion P (lines_told i (drop n es))
fits_rest P i zero es h = h
fits_rest P i (suc n) [] h = tt
fits_rest P i (suc n) (e ∷ es) h = fits_rest P i n es (all_back P (line_told i e) (lines_told i es) h)

-- the last entries of the last entries
pub last_last : (es : List JournalEntry) (n m : ℕ) → m ≤ length (last_entries n es) → last_entries m (last_entries n es) ≡ last_entries m es
last_last es n m le =
    let d = length-drop (length es - n) es in
    drop-drop (length (last_entries n es) - m) (length es - n) es ∙ ap (λ k. drop k es) (let e : (length es - n) + (length (last_entries n es) - m) ≡ length es - m = omega (arith, d, le) in e)

pub last_all : (es : List JournalEntry) → last_entries (length es) es ≡ es
last_all es = ap (λ k. drop k es) (let e : length es - length es ≡ 0 = omega arith in e)

pub last_short : (es : List JournalEntry) (n : ℕ) → length (last_entries n es) ≤ n
last_short es n = let d = length-drop (length es - n) es in omega (arith, d)

-- how far the telling of a block has come
pub record Telling (p : Parts) (i : ℕ) (es : List JournalEntry) (before now : List ℕ) (at : ℕ) : Type 0 where
  pub fits : AllByRecursion (LineFits p) (lines_told i (drop at es))
  pub told : now ++ lines_text p (through_grant (lines_told i (drop at es))) ≡ before ++ lines_text p (through_grant (lines_told i es))
  pub rest : behind_grant (lines_told i (drop at es)) ≡ behind_grant (lines_told i es)
