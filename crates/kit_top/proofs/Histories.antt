-- What nodes report of their federates, each as a part of a history, one after another.
use Rattle.std.proofs.Common.{◌≡◌, ℕ, zero, suc, ◌+◌, ◌<◌, List, [], ◌∷◌, ◌++◌, length, map, get_or, Result, Ok, Err, IfOk, refl, sym, subst, ap, ◌∙◌, arith, length-append}
use mathlib.Core.Option.{some, some-injective, some-ne-none}
use lib.ListN.{get_elem?}
use Rattle.std.proofs.lemmas.List.{length-map}
use Rattle.kit_base.specs.declared.history.Line.{Line}
use Rattle.kit_base.specs.declared.history.Part.{Part}
use Rattle.kit_rules.specs.Federation.{IsFederation}
use Rattle.kit_rules.specs.Merging.{ArePartsOf, IsMerged, vars_in}
use Rattle.kit_rules.specs.Simulation.{Block}
use Rattle.kit_rules.specs.Parts.{Parts}
use Rattle.kit_model.specs.Journals.{lines_told}
use Rattle.kit_node.specs.declared.node.NodeReport.{NodeReport}
use Rattle.kit_replay.specs.Parts.{AreSimulated, AreToldParts, WholePartsMerge}
use Rattle.kit_replay.specs.Reports.{AreWholeParts}

-- a part is what a report tells
abbrev pub Tells : List NodeReport → ℕ → Part → Type 0
Tells reports i q = (r : NodeReport) → get_elem? reports i ≡ some r → (q.lines ≡ lines_told i r.journal.entries) × (q.vars ≡ r.vars)

-- the first n parts
pub record AreTold (reports : List NodeReport) (n : ℕ) (parts : List Part) : Type 0 where
  pub many : length parts ≡ n
  pub each : (i : ℕ) (q : Part) → get_elem? parts i ≡ some q → Tells reports i q

pub none_told : (reports : List NodeReport) → AreTold reports 0 []
none_told reports = record { many = refl; each = λ i q e. absurd (some-ne-none q (sym e)) }

-- one element more at the end of a list
at_push : {A : Type 0} (P : ℕ → A → Type 0) (xs : List A) (x : A) → ((i : ℕ) (a : A) → get_elem? xs i ≡ some a → P i a) → P (length xs) x
    → (i : ℕ) (a : A) → get_elem? (xs ++ x ∷ []) i ≡ some a → P i a
at_push P [] x each last zero a e = subst (P 0) (some-injective x a e) last
at_push P [] x each last (suc i) a e = absurd (some-ne-none a (sym e))
at_push P (y ∷ ys) x each last zero a e = each zero a e
at_push P (y ∷ ys) x each last (suc i) a e = at_push (λ k. P (suc k)) ys x (λ k b at. each (suc k) b at) (let one : length (y ∷ ys) ≡ suc (length ys) = omega arith in subst (λ k. P k x) one last) i a e

-- the element that a place has
at_is : {A : Type 0} (xs : List A) (i : ℕ) (x a : A) → x ≡ get_or xs i x → get_elem? xs i ≡ some a → i < length xs → x ≡ a
at_is [] i x a e at below = absurd (omega arith)
at_is (y ∷ ys) zero x a e at below = e ∙ some-injective y a at
at_is (y ∷ ys) (suc i) x a e at below = at_is ys i x a e at (omega arith)

pub more_told : (reports : List NodeReport) (n : ℕ) (parts : List Part) (r : NodeReport) (q : Part) → n < length reports → r ≡ get_or reports n r → q.lines ≡ lines_told n r.journal.entries → q.vars ≡ r.vars
    → AreTold reports n parts → AreTold reports (n + 1) (parts ++ q ∷ [])
more_told reports n parts r q below is lines vars told = record {
  many = length-append parts (q ∷ []) ∙ ap (λ k. k + 1) told.many;
  each = at_push (Tells reports) parts q told.each here;
}
  where
    new : Tells reports n q
    new a at =
        let same : r ≡ a = at_is reports n r a is at below in
        (lines ∙ ap (λ (x : NodeReport). lines_told n x.journal.entries) same, vars ∙ ap (λ (x : NodeReport). x.vars) same)

    here : Tells reports (length parts) q
    here = subst (λ k. Tells reports k q) (sym told.many) new

pub all_told : (reports : List NodeReport) (n : ℕ) (parts : List Part) → n ≡ length reports → AreTold reports n parts → AreToldParts reports parts
all_told reports n parts e told = record { many = told.many ∙ e; each = λ i r q at here. told.each i q here r at }

-- there are variables of each federate
pub vars_for_each : (p : Parts) (reports : List NodeReport) (parts given : List Part) (vars : List (List ℕ)) → AreWholeParts p reports → AreToldParts reports parts → given ≡ parts → vars ≡ map vars_in given → length vars ≡ length p.federates
vars_for_each p reports parts given vars whole told same vars_are = ap length (vars_are ∙ ap (map vars_in) same) ∙ length-map parts vars_in ∙ told.many ∙ whole.many

pub few_reports : (p : Parts) (reports : List NodeReport) → IsFederation p → AreWholeParts p reports → length reports < 256
few_reports p reports f whole = let many : length reports ≡ length p.federates = whole.many in omega (arith, f.federates.count.1)

-- what is merged of told parts is the simulation
pub simulated : (law : WholePartsMerge) (p : Parts) → IsFederation p → (reports : List NodeReport) (parts given : List Part) (lines : List Line) (vars : List (List ℕ)) → AreWholeParts p reports → AreToldParts reports parts → given ≡ parts
    → ((blocks : List (List Block)) → ArePartsOf given blocks → IsMerged blocks lines) → vars ≡ map vars_in given → AreSimulated p lines vars
simulated law p f reports parts given lines vars whole told same merged vars_are =
    let P : List Part → Type 0 = λ ps. (blocks : List (List Block)) → ArePartsOf ps blocks → IsMerged blocks lines in
    law p f reports parts lines vars whole told (record { lines_are = subst P same merged; vars_are = vars_are ∙ ap (map vars_in) same })

-- what is so of a result, since two other things are
pub if_ok_both : {A E : Type 0} (r : Result A E) (P Q R : A → Type 0) → ((a : A) → P a → Q a → R a) → IfOk r P → IfOk r Q → IfOk r R
if_ok_both (Ok a) P Q R f p q = f a p q
if_ok_both (Err e) P Q R f p q = tt

pub if_ok : {A E : Type 0} (r : Result A E) (P R : A → Type 0) → ((a : A) → P a → R a) → IfOk r P → IfOk r R
if_ok (Ok a) P R f p = f a p
if_ok (Err e) P R f p = tt
