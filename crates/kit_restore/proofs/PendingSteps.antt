-- What is pending: messages that rise, and whose numbers were noted.
use Rattle.std.proofs.Common.{◌≡◌, ℕ, true, false, ◌-◌, ◌<◌, ◌≤◌, Bool, ◌||◌, IsTrue, List, [], ◌∷◌, ◌++◌, length, get_or, nat_lt, arith, refl, sym, ap, ◌∙◌}
use Rattle.std.specs.List.{All, AllPairs, list_all, list_any}
use Rattle.std.specs.Ordering.{is_lt}
use Rattle.std.specs.declared.cmp.Ordering.{Ordering}
use Rattle.std.specs.declared.cmp.Ordering.TheVariants.{Less, Equal, Greater}
use Rattle.std.proofs.lemmas.Bool.{and_parts, ltb-true}
use Rattle.std.proofs.lemmas.List.Folds.{list_any-append}
use Rattle.std.proofs.lemmas.List.Sums.{AllPass-from_list_all}
use Rattle.std.proofs.lemmas.List.Quantifiers.{all_pairs_push}
use Rattle.kit_base.specs.declared.message.Message.{Message}
use Rattle.kit_base.specs.Order.{is_before, key_cmp}
use Rattle.kit_base.proofs.Orders.{key_total}
use Rattle.kit_rules.specs.Delivery.{has_bit}
use Rattle.kit_rules.specs.Parts.{Parts}
use Rattle.kit_rules.specs.Federation.{IsFederation}
use Rattle.kit_cut.specs.ValidCuts.{IsNextNumber, IsNumbered}
use Rattle.kit_restore.specs.CutWalk.{is_regulating}
use Rattle.kit_restore.specs.Noted.{has_number, AreNoted}
use Rattle.kit_restore.proofs.LastOnes.{all_by_last}

-- the order that the test finds
is_less : (o : Ordering) → is_lt o ≡ true → o ≡ Less
is_less Less h = refl
is_less Equal h = absurd (cc)
is_less Greater h = absurd (cc)

-- the order of messages goes on
goes_on : (a b c : Message) → IsTrue (is_before a b) → IsTrue (is_before b c) → IsTrue (is_before a c)
goes_on a b c h g = ap is_lt (key_total.trans a b c (is_less (key_cmp a b) h) (is_less (key_cmp b c) g))

-- a message that the last of those that rise comes before comes after all
pub after_the_last : (xs : List Message) (z m : Message) → AllPairs (λ a b. IsTrue (is_before a b)) xs → 1 ≤ length xs
    → list_all (λ b. is_before b m) xs ≡ is_before (get_or xs (length xs - 1) z) m
after_the_last xs z m rise some = all_by_last (λ a b. IsTrue (is_before a b)) (λ b. is_before b m) (λ a b h g. goes_on a b m h g) xs z rise some

-- one more, which comes after all
pub one_more_message : (xs : List Message) (m : Message) → AllPairs (λ a b. IsTrue (is_before a b)) xs → list_all (λ b. is_before b m) xs ≡ true → AllPairs (λ a b. IsTrue (is_before a b)) (xs ++ m ∷ [])
one_more_message xs m rise risen = all_pairs_push (λ a b. IsTrue (is_before a b)) xs m rise (λ k d lt. AllPass-from_list_all (λ b. is_before b m) xs risen k d lt)

-- or with nothing
or_none : (b : Bool) → b ≡ (b || false)
or_none true = refl
or_none false = refl

-- one more, whose number is noted
pub one_more_noted : (old new : List ℕ) (xs : List Message) (m : Message) → AreNoted old xs
    → ((sender number : ℕ) → has_bit (get_or new number 0) sender ≡ (has_bit (get_or old number 0) sender || has_number sender number m)) → AreNoted new (xs ++ m ∷ [])
one_more_noted old new xs m noted more sender number =
    more sender number ∙ ap (λ b. b || has_number sender number m) (noted sender number) ∙ ap (λ b. list_any (has_number sender number) xs || b) (or_none (has_number sender number m))
    ∙ sym (list_any-append (has_number sender number) xs (m ∷ []))

-- a number below the next of a sender that is regulating is one there can be
pub regulating_numbered : (p : Parts) (nexts : List ℕ) (m : Message) → IsFederation p → length nexts ≡ length p.federates → All IsNextNumber nexts
    → is_regulating p m.sender ≡ true → nat_lt m.number (get_or nexts m.sender 0) ≡ true → IsNumbered m
regulating_numbered p nexts m f len low regulating below =
    let there : m.sender < length p.federates = ltb-true m.sender (length p.federates) (and_parts (nat_lt m.sender (length p.federates)) _ regulating).0 in
    let lower : m.number < get_or nexts m.sender 0 = ltb-true m.number (get_or nexts m.sender 0) below in
    let next : IsNextNumber (get_or nexts m.sender 0) = low m.sender 0 (omega (arith, there, len)) in
    (omega (arith, there, f.federates.count.1), omega (arith, lower, next.1))
