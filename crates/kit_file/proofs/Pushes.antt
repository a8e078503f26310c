-- Lists that grow by one more name, group, update, federate or other member.
use Rattle.std.proofs.Common.{◌≡◌, ℕ, ◌^◌, ◌*◌, ◌%◌, ◌<◌, ◌≤◌, List, [], ◌∷◌, ◌++◌, length, map, take, get_or, refl, sym, ap, ◌∙◌, arith, length-append}
use Rattle.std.specs.List.{All}
use Rattle.std.specs.Int.Bits.{bit_or}
use Rattle.std.proofs.lemmas.List.Quantifiers.{all_pairs_push}
use Rattle.std.proofs.lemmas.List.Elements.{All-push}
use Rattle.std.proofs.lemmas.List.{take_more, map_push, take_all, get_or-map, get_or_default}
use Rattle.std.proofs.lemmas.Nat.{or_lt}
use Rattle.std.proofs.Math.Pow.{pow-lt}
use Rattle.kit_rules.specs.declared.table.Group.{Group}
use Rattle.kit_rules.specs.declared.table.Federate.{Federate}
use Rattle.kit_rules.specs.Names.{IsName}
use Rattle.kit_rules.specs.Federation.{IsGroup}
use Rattle.kit_regions.specs.declared.region.Update.{Update}
use Rattle.kit_regions.specs.Limits.{IsUpdate, IsPlannedFederate, ArePlannedFederates}
use Rattle.kit_file.specs.SoFar.{AreNames, IsNewName, AreGroupsSoFar, AreUpdatesSoFar, AreFederatesSoFar}
use Rattle.kit_file.specs.Names.{itself, group_name, update_name}

-- no names are names that differ
pub no_names : {X : Type 0} (name_of : X → List ℕ) → AreNames name_of []
no_names name_of = record { names = λ i d h. absurd (omega (arith, h)); differ = λ i j d h k. absurd (omega (arith, k)) }

-- a new name beside names that differ
pub one_more_name : {X : Type 0} (name_of : X → List ℕ) (xs : List X) (y : X) → AreNames name_of xs → IsNewName name_of xs (name_of y) → AreNames name_of (xs ++ y ∷ [])
one_more_name name_of xs y old new = record {
  names = All-push (λ x. IsName (name_of x)) xs y old.names new.form;
  differ = all_pairs_push (λ a b. name_of a ≡ name_of b → ⊥) xs y old.differ new.fresh;
}

-- what holds of each of none
pub all_of_none : {X : Type 0} (P : X → Type 0) → All P []
all_of_none P = λ i d h. absurd (omega (arith, h))

-- what holds of each and of one more
pub all_and_one : {X : Type 0} (P : X → Type 0) (xs : List X) (y : X) → All P xs → P y → All P (xs ++ y ∷ [])
all_and_one P xs y old one = All-push P xs y old one

-- a bit below n set in n bits
pub one_more_bit : (n bits j : ℕ) → j < n → bits < 2 ^ n → bit_or bits (1 * 2 ^ j % 65536) < 2 ^ n
one_more_bit n bits j lt fits =
    let bit : 2 ^ j < 2 ^ n = pow-lt lt in
    or_lt n bits (1 * 2 ^ j % 65536) fits (omega (arith, bit))

-- no groups
pub no_groups : (n : ℕ) → AreGroupsSoFar n []
no_groups n = record { each = λ i d h. absurd (omega (arith, h)); differ = λ i j d h k. absurd (omega (arith, k)) }

-- one more group, with a new name
pub one_more_group : (n : ℕ) (xs : List Group) (y : Group) → AreGroupsSoFar n xs → IsGroup n y → IsNewName group_name xs y.name → AreGroupsSoFar n (xs ++ y ∷ [])
one_more_group n xs y old is new = record {
  each = All-push (IsGroup n) xs y old.each is;
  differ = all_pairs_push (λ (a b : Group). a.name ≡ b.name → ⊥) xs y old.differ new.fresh;
}

-- no updates
pub no_updates : (n : ℕ) → AreUpdatesSoFar n []
no_updates n = record { each = λ i d h. absurd (omega (arith, h)); differ = λ i j d h k. absurd (omega (arith, k)) }

-- one more update, with a new name
pub one_more_update : (n : ℕ) (xs : List Update) (y : Update) → AreUpdatesSoFar n xs → IsUpdate n y → IsNewName update_name xs y.name → AreUpdatesSoFar n (xs ++ y ∷ [])
one_more_update n xs y old is new = record {
  each = All-push (IsUpdate n) xs y old.each is;
  differ = all_pairs_push (λ (a b : Update). a.name ≡ b.name → ⊥) xs y old.differ new.fresh;
}

-- the name of a federate
abbrev named : Federate → List ℕ
named f = f.name

-- no federates
pub no_federates : (n t : ℕ) (names : List (List ℕ)) → AreFederatesSoFar n t names []
no_federates n t names = record { each = λ i d h. absurd (omega (arith, h)); named = refl }

-- the next federate, with the next name
pub one_more_federate : (n t : ℕ) (names : List (List ℕ)) (xs : List Federate) (y : Federate) (i : ℕ) (s : List ℕ) → i < length names → length xs ≡ i → s ≡ get_or names i s → y.name ≡ s → AreFederatesSoFar n t names xs → IsPlannedFederate n t y → AreFederatesSoFar n t names (xs ++ y ∷ [])
one_more_federate n t names xs y i s lt count is is_same old one =
    let below : length xs < length names = omega (arith, count, lt) in
    let called : y.name ≡ get_or names (length xs) [] = is_same ∙ is ∙ get_or_default names i s [] lt ∙ ap (λ k. get_or names k []) (sym count) in
    record {
      each = All-push (IsPlannedFederate n t) xs y old.each one;
      named = map_push named xs y ∙ ap (λ ns. ns ++ y.name ∷ []) old.named ∙ ap (λ x. take (length xs) names ++ x ∷ []) called
          ∙ sym (take_more names (length xs) [] below) ∙ ap (λ k. take k names) (sym (length-append xs (y ∷ [])));
    }

-- federates with all of these names
pub federates_are : (n t : ℕ) (names : List (List ℕ)) (fs : List Federate) → AreFederatesSoFar n t names fs → length fs ≡ length names → AreNames itself names → 1 ≤ length names → length names ≤ 16 → ArePlannedFederates n t fs
federates_are n t names fs keep is_same given low high =
    let all : map named fs ≡ names = keep.named ∙ ap (λ k. take k names) is_same ∙ take_all (length names) names (omega arith) in
    let at : (i : ℕ) (d : Federate) → i < length fs → get_or names i [] ≡ named (get_or fs i d) = λ i d lt. ap (λ ns. get_or ns i []) (sym all) ∙ get_or-map named fs i d [] lt in
    record {
      count = (omega (arith, is_same, low), omega (arith, is_same, high));
      each = keep.each;
      differ = λ i j d lt below e. given.differ i j [] lt (omega (arith, is_same, below)) (at i d (omega (arith, lt, below)) ∙ e ∙ sym (at j d below));
    }
