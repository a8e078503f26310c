-- Federates come back.
use Rattle.std.proofs.Common.{◌≡◌, ◌≢◌, ℕ, List, [], ◌∷◌, ◌++◌, length, map, false, Option, Some, None, Ok, codes, refl, sym, ap, subst, ◌∙◌}
use Rattle.std.specs.Prelude.{option_map, is_some, IfSome, slice_index_or}
use Rattle.std.specs.List.{All}
use Rattle.std.proofs.lemmas.List.{map_push}
use Rattle.std.proofs.lemmas.List.Elements.{All-map}
use Rattle.serde_json.specs.Data.{Data, boolean, string}
use Rattle.serde_json.specs.Find.{get}
use Rattle.kit_rules.specs.declared.table.Wish.{Wish}
use Rattle.kit_rules.specs.declared.table.Wish.TheVariants as wish
use Rattle.kit_rules.specs.declared.table.Group.{Group}
use Rattle.kit_rules.specs.declared.table.Federate.{Federate}
use Rattle.kit_rules.specs.Names.{IsName}
use Rattle.kit_rules.specs.Federation.{IsStep, IsWish, IsFederate}
use Rattle.kit_walk.specs.Paths.{key_path, item_path}
use Rattle.kit_walk.specs.Reading.{within}
use Rattle.kit_walk.specs.Places.{object, member}
use Rattle.kit_file.specs.Names.{group_name, new_name}
use Rattle.kit_file.specs.Lookaheads.{regulating_of, lookahead_of}
use Rattle.kit_file.specs.FederateNames.{federate_name_of, federate_name_step, federate_names_of}
use Rattle.kit_file.specs.Federates.{wish_of, advance_of, federate_of, federate_step, federates_of}
use Rattle.kit_file.proofs.Ranges.{numbers_are_taken, names_are_taken}
use Rattle.kit_save.specs.Values.{count, list_value, wish_value, var_value, rule_value, federate_value}
use Rattle.kit_save.specs.Widths.{IsWordFederate}
use Rattle.kit_save.proofs.Lists.{middle, both, member_read, one_more, each_goes_on, themselves, GoesOn, TakesEach}
use Rattle.kit_save.proofs.Names.{Differ, earlier}
use Rattle.kit_save.proofs.Variables.{vars_taken}
use Rattle.kit_save.proofs.Rules.{rules_taken}

-- the name of a federate
abbrev pub federate_name : Federate → List ℕ
federate_name f = f.name

-- the names of federates
abbrev pub names_of : List Federate → List (List ℕ)
names_of fs = map federate_name fs

-- a wish
pub wish_taken : (w : Wish) → IsWish w → wish_of (wish_value w) ≡ Ok w
unfolding wish_of object
wish_taken (wish.Tar step) is = numbers_are_taken.tar_advance false (wish_value (wish.Tar step)) step refl is
wish_taken (wish.Ner step) is = numbers_are_taken.ner_advance (wish_value (wish.Ner step)) step refl is

-- the key advance
advance_taken : (d : Data) (w : Wish) → get (codes "advance") d ≡ Some (wish_value w) → IsWish w → advance_of d ≡ Ok w
unfolding advance_of
advance_taken d w e is =
    both (member (codes "advance") d) (wish_value w) (λ a. within (key_path (codes "advance")) (wish_of a)) w (member_read (codes "advance") d (wish_value w) e) (ap (within (key_path (codes "advance"))) (wish_taken w is))

-- the keys regulating and lookahead
lookahead_taken : (d : Data) (l : Option ℕ) → get (codes "regulating") d ≡ Some (boolean (is_some l)) → get (codes "lookahead") d ≡ option_map count l → IfSome l IsStep → lookahead_of 2 d ≡ Ok l
unfolding lookahead_of regulating_of
lookahead_taken d None r e is = rw r refl
lookahead_taken d (Some l) r e is = rw r (numbers_are_taken.lookahead d l (rw e refl) is)

-- what a federate's value has under its keys
record SaysFederate (groups : List Group) (f : Federate) (d : Data) : Type 0 where
  advance : get (codes "advance") d ≡ Some (wish_value f.advance)
  lookahead : get (codes "lookahead") d ≡ option_map count f.lookahead
  name : get (codes "name") d ≡ Some (string f.name)
  regulating : get (codes "regulating") d ≡ Some (boolean (is_some f.lookahead))
  rules : get (codes "rules") d ≡ Some (list_value (rule_value groups f.vars) f.rules)
  vars : get (codes "vars") d ≡ Some (list_value var_value f.vars)

said : (groups : List Group) (f : Federate) → SaysFederate groups f (federate_value groups f)
said groups f = with_lookahead f.lookahead
  where
    with_lookahead : (l : Option ℕ) → SaysFederate groups (record f { lookahead = l }) (federate_value groups (record f { lookahead = l }))
    with_lookahead None = record { advance = refl; lookahead = refl; name = refl; regulating = refl; rules = refl; vars = refl }
    with_lookahead (Some l) = record { advance = refl; lookahead = refl; name = refl; regulating = refl; rules = refl; vars = refl }

-- a federate, once its name is known
federate_taken : (groups : List Group) (f : Federate) (d : Data) → SaysFederate groups f d → Differ group_name groups → IsFederate (length groups) f → IsWordFederate f → federate_of 2 (record { groups = map group_name groups; targets = map group_name groups }) f.name d ≡ Ok f
unfolding federate_of
federate_taken groups f d says differ is word =
    rw (
      lookahead_taken d f.lookahead says.regulating says.lookahead is.lookahead,
      advance_taken d f.advance says.advance is.advance,
      vars_taken d f.vars says.vars is.vars word.0,
      rules_taken groups f.vars f.lookahead d f.rules says.rules differ is.vars is.few_rules is.rules word.1,
    ) refl

-- the name in the middle of a list of names
name_in_middle : (before : List Federate) (f : Federate) (after : List Federate) → slice_index_or (names_of (before ++ f ∷ after)) (length before) [] ≡ f.name
name_in_middle [] f after = refl
name_in_middle (b ∷ before) f after = name_in_middle before f after

-- each federate in full
each_federate : (groups : List Group) (fs : List Federate) → Differ group_name groups → All (IsFederate (length groups)) fs → All IsWordFederate fs → TakesEach (federate_step 2 (names_of fs) (record { groups = map group_name groups; targets = map group_name groups })) (federate_value groups) fs
unfolding federate_step
each_federate groups fs differ is word before f after at =
    one_more (item_path (codes "federates") (length before)) (federate_of 2 (record { groups = map group_name groups; targets = map group_name groups }) (slice_index_or (names_of fs) (length before) []) (federate_value groups f)) before f
    (ap (λ s. federate_of 2 (record { groups = map group_name groups; targets = map group_name groups }) s (federate_value groups f)) named
    ∙ federate_taken groups f (federate_value groups f) (said groups f) differ (middle (IsFederate (length groups)) before f after (subst (All (IsFederate (length groups))) at is)) (middle IsWordFederate before f after (subst (All IsWordFederate) at word)))
  where
    named : slice_index_or (names_of fs) (length before) [] ≡ f.name
    named = ap (λ all. slice_index_or (names_of all) (length before) []) at ∙ name_in_middle before f after

-- all federates in full
pub federates_taken : (groups : List Group) (fs : List Federate) → Differ group_name groups → All (IsFederate (length groups)) fs → All IsWordFederate fs → federates_of 2 (names_of fs) (record { groups = map group_name groups; targets = map group_name groups }) (map (federate_value groups) fs) ≡ Ok fs
unfolding federates_of
federates_taken groups fs differ is word =
    each_goes_on (federate_step 2 (names_of fs) (record { groups = map group_name groups; targets = map group_name groups })) (federate_value groups) themselves fs [] fs (each_federate groups fs differ is word) refl

-- the name of one federate, after these
name_taken : (groups : List Group) (before : List Federate) (f : Federate) → IsName f.name → All (λ b. federate_name b ≢ f.name) before → federate_name_of (names_of before) (federate_value groups f) ≡ Ok f.name
unfolding federate_name_of object new_name
name_taken groups before f form apart =
    rw (
      names_are_taken.form (codes "name") (federate_value groups f) f.name (rw (said groups f).name refl) form,
      names_are_taken.federates (names_of before) (codes "name") f.name (All-map (λ s. s ≢ f.name) federate_name before apart),
    ) refl

-- each name
each_name : (groups : List Group) (fs : List Federate) → Differ federate_name fs → All (λ f. IsName (federate_name f)) fs → GoesOn federate_name_step (federate_value groups) names_of fs
unfolding federate_name_step
each_name groups fs differ form before f after at =
    one_more (item_path (codes "federates") (length before)) (federate_name_of (names_of before) (federate_value groups f)) (names_of before) f.name
    (name_taken groups before f
    (middle (λ g. IsName (federate_name g)) before f after (subst (All (λ g. IsName (federate_name g))) at form))
    (earlier federate_name before f after (subst (Differ federate_name) at differ)))
    ∙ ap Ok (sym (map_push federate_name before f))

-- the names of all federates
pub names_taken : (groups : List Group) (fs : List Federate) → Differ federate_name fs → All (λ f. IsName (federate_name f)) fs → federate_names_of (map (federate_value groups) fs) ≡ Ok (names_of fs)
unfolding federate_names_of
names_taken groups fs differ form =
    each_goes_on federate_name_step (federate_value groups) names_of fs [] fs (each_name groups fs differ form) refl
