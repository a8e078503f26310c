-- A cut comes back, and its federation with it.
use Rattle.std.proofs.Common.{◌≡◌, ℕ, suc, ◌<◌, ◌≤◌, List, [], ◌∷◌, ◌++◌, length, map, Ok, codes, refl, sym, ap, arith, ◌∙◌}
use Rattle.std.specs.Prelude.{slice_index_or}
use Rattle.std.specs.List.{zip}
use Rattle.std.proofs.lemmas.List.{map_push}
use Rattle.std.proofs.lemmas.List.Elements.{All-get_or}
use Rattle.kit_rules.specs.declared.table.Federate.{Federate}
use Rattle.kit_rules.specs.Parts.{Parts, nobody, federate_at}
use Rattle.kit_rules.specs.Federation.{IsFederation, IsFederate}
use Rattle.kit_walk.specs.Paths.{key_path, item_path}
use Rattle.kit_walk.specs.Reading.{within}
use Rattle.kit_walk.specs.Places.{object, member}
use Rattle.kit_cut.specs.declared.cut.Standing.{Standing}
use Rattle.kit_cut.specs.declared.cut.Cut.{Cut}
use Rattle.kit_cut.specs.ValidCuts.{nobody_stands, standing_at, IsValidCut}
use Rattle.kit_save.specs.Widths.{HasWords}
use Rattle.kit_save.specs.Laws.{SaysFederation}
use Rattle.kit_save.specs.CutWidths.{HasStandingWords, HasCutWords}
use Rattle.kit_save.specs.CutValues.{standing_value, paired_value, cut_value, saved_value}
use Rattle.kit_restore.specs.CutWalk.{standing_of, standing_step, standings_of, cut_in, cut_of}
use Rattle.kit_save.specs.CutLaws.{IsReadAgain}
use Rattle.kit_save.proofs.Lists.{both, member_read, one_more, each_goes_on, GoesOn}
use Rattle.kit_save.proofs.Rows.{number_taken, list_taken, numbers_taken}
use Rattle.kit_save.proofs.Standings.{standing_taken}
use Rattle.kit_save.proofs.Federations.{federation_taken}

-- what is kept of a federate that is paired with it
abbrev kept : Federate × Standing → Standing
kept x = x.1

abbrev all_kept : List (Federate × Standing) → List Standing
all_kept xs = map kept xs

kept_again : (fs : List Federate) (ss : List Standing) → length ss ≡ length fs → all_kept (zip fs ss) ≡ ss
kept_again [] [] same = refl
kept_again [] (s ∷ ss) same = absurd (omega (arith, same))
kept_again (f ∷ fs) [] same = absurd (omega (arith, same))
kept_again (f ∷ fs) (s ∷ ss) same = ap (λ rest. s ∷ rest) (kept_again fs ss (omega (arith, same)))

paired_length : (fs : List Federate) (ss : List Standing) → length ss ≡ length fs → length (zip fs ss) ≡ length fs
paired_length [] [] same = refl
paired_length [] (s ∷ ss) same = absurd (omega (arith, same))
paired_length (f ∷ fs) [] same = absurd (omega (arith, same))
paired_length (f ∷ fs) (s ∷ ss) same = ap suc (paired_length fs ss (omega (arith, same)))

-- a pair in the middle is of the same place in both lists
record IsPairAt (fs : List Federate) (ss : List Standing) (i : ℕ) (x : Federate × Standing) : Type 0 where
  inside : i < length fs
  federate : x.0 ≡ slice_index_or fs i nobody
  standing : x.1 ≡ slice_index_or ss i nobody_stands

pair_at : (fs : List Federate) (ss : List Standing) (before : List (Federate × Standing)) (x : Federate × Standing) (after : List (Federate × Standing)) → zip fs ss ≡ before ++ x ∷ after → IsPairAt fs ss (length before) x
pair_at [] ss [] x after at = absurd (cc)
pair_at [] ss (b ∷ before) x after at = absurd (cc)
pair_at (f ∷ fs) [] [] x after at = absurd (cc)
pair_at (f ∷ fs) [] (b ∷ before) x after at = absurd (cc)
pair_at (f ∷ fs) (s ∷ ss) [] x after at =
    let first : (f, s) ≡ x = cc in
    record { inside = omega arith; federate = sym (ap (λ (y : Federate × Standing). y.0) first); standing = sym (ap (λ (y : Federate × Standing). y.1) first) }
pair_at (f ∷ fs) (s ∷ ss) (b ∷ before) x after at =
    let rest : zip fs ss ≡ before ++ x ∷ after = cc in
    let there = pair_at fs ss before x after rest in
    record { inside = omega (arith, there.inside); federate = there.federate; standing = there.standing }

-- a federate has few variables
few_vars : (p : Parts) (i : ℕ) → IsFederation p → i < length p.federates → length (federate_at p i).vars ≤ 8
few_vars p i is inside = (All-get_or (IsFederate (length p.groups)) p.federates i nobody inside is.federates.each).vars.few

-- what is kept of each federate
standing_here : (p : Parts) (c : Cut) (i : ℕ) (x : Federate × Standing) → IsFederation p → IsValidCut p c → HasCutWords c → IsPairAt p.federates c.federates i x → standing_of p c.at c.next i (paired_value x) ≡ Ok x.1
standing_here p c i x is valid word pair =
    let inside : i < length c.federates = omega (arith, pair.inside, valid.each) in
    let taken : standing_of p c.at c.next i (standing_value (federate_at p i) (standing_at c i)) ≡ Ok (standing_at c i) =
    standing_taken p c.at c.next i (standing_at c i) (few_vars p i is pair.inside) (valid.federates i pair.inside) (All-get_or HasStandingWords c.federates i nobody_stands inside word) in
    rw (pair.federate, pair.standing) taken

each_standing : (p : Parts) (c : Cut) → IsFederation p → IsValidCut p c → HasCutWords c → GoesOn (standing_step p c.at c.next) paired_value all_kept (zip p.federates c.federates)
unfolding standing_step
each_standing p c is valid word before x after at =
    one_more (item_path (codes "federates") (length before)) (standing_of p c.at c.next (length before) (paired_value x)) (all_kept before) x.1
    (standing_here p c (length before) x is valid word (pair_at p.federates c.federates before x after at))
    ∙ ap Ok (sym (map_push kept before x))

-- the list federates
standings_taken : (p : Parts) (c : Cut) → IsFederation p → IsValidCut p c → HasCutWords c → standings_of p c.at c.next (cut_value p c) ≡ Ok c.federates
unfolding standings_of
standings_taken p c is valid word =
    let pairs = zip p.federates c.federates in
    let long : length pairs ≡ length p.federates = paired_length p.federates c.federates valid.each in
    rw (list_taken (codes "federates") (length p.federates) (length p.federates) (cut_value p c) paired_value pairs refl (omega (arith, long)) (omega (arith, long)))
    (each_goes_on (standing_step p c.at c.next) paired_value all_kept pairs [] pairs (each_standing p c is valid word) refl
    ∙ ap Ok (kept_again p.federates c.federates valid.each))

-- the cut
cut_said : (p : Parts) (c : Cut) → IsFederation p → IsValidCut p c → HasCutWords c → cut_in p (cut_value p c) ≡ Ok c
unfolding cut_in object
cut_said p c is valid word =
    rw (
      number_taken (codes "at") 0 p.end (cut_value p c) c.at refl (omega arith) valid.at,
      numbers_taken (codes "next") (length p.federates) 1 16385 (cut_value p c) c.next refl valid.each_next valid.nexts,
      standings_taken p c is valid word,
    ) refl

cut_taken : (p : Parts) (c : Cut) → IsFederation p → IsValidCut p c → HasCutWords c → cut_of p (saved_value p c) ≡ Ok c
unfolding cut_of
cut_taken p c is valid word =
    both (member (codes "cut") (saved_value p c)) (cut_value p c) (λ v. within (key_path (codes "cut")) (cut_in p v)) c (member_read (codes "cut") (saved_value p c) (cut_value p c) refl) (ap (within (key_path (codes "cut"))) (cut_said p c is valid word))

-- the federation with its cut
saved_said : (p : Parts) (c : Cut) → SaysFederation p (saved_value p c)
saved_said p c = record { object = refl; version = refl; end = refl; buffers = refl; groups = refl; federates = refl }

pub saved_taken : (p : Parts) (c : Cut) → IsFederation p → HasWords p → IsValidCut p c → HasCutWords c → IsReadAgain p c
saved_taken p c is words valid word = record { federation = federation_taken p (saved_value p c) is words (saved_said p c); cut = cut_taken p c is valid word }
