-- The receivers of a message as a mask: of federates that there are, without the sender, and not empty where the message is transported.
use Rattle.std.proofs.Common.{◌≡◌, ◌≢◌, ◌==◌, ℕ, ◌+◌, ◌-◌, ◌*◌, ◌/◌, ◌%◌, ◌^◌, ◌<◌, ◌≤◌, nat_le, true, false, not, ⊎_elim, length, refl, sym, ap, ◌∙◌, subst, arith, eqb-true, div-add-mod'}
use Rattle.std.specs.Int.{bit_at}
use Rattle.std.proofs.Math.Nat.{add-mul, mod-lt}
use Rattle.std.proofs.lemmas.Bool.{and_parts, cases_lt, cond_both, eqb-false, leb-true, not-true}
use Rattle.std.proofs.lemmas.List.{get_or_past}
use Rattle.std.proofs.lemmas.List.Elements.{All-get_or}
use Rattle.std.proofs.lemmas.Nat.{div-mul-add, pow_pos}
use Rattle.std.proofs.lemmas.Nat.Bits.{bit_at-lt}
use Rattle.kit_base.specs.declared.message.Message.{Message}
use Rattle.kit_rules.specs.declared.table.Group.{Group}
use Rattle.kit_rules.specs.Delivery.{has_bit, is_transported, receivers_of, without_bit}
use Rattle.kit_rules.specs.Federation.{IsFederation, IsGroup}
use Rattle.kit_rules.specs.Parts.{Parts, group_at, no_group}

-- the test of a bit
pub bit_on : (mask j : ℕ) → has_bit mask j ≡ true → bit_at mask j ≡ 1
bit_on mask j on = eqb-true (bit_at mask j) 1 on

pub bit_off : (mask j : ℕ) → has_bit mask j ≡ false → bit_at mask j ≡ 0
bit_off mask j off =
    let bit : ℕ = bit_at mask j in
    let few : bit < 2 = bit_at-lt mask j in
    let other : bit ≡ 1 → ⊥ = eqb-false bit 1 off in
    let is : bit ≡ 0 = omega arith in
    is

-- a bit that is set is taken out by a subtraction
taken_out : (mask j : ℕ) → bit_at mask j ≡ 1 → bit_at (mask - 2 ^ j) j ≡ 0
taken_out mask j on =
    let w : ℕ = 2 ^ j in
    let high : ℕ = mask / w in
    let low : ℕ = mask % w in
    let small : low < w = mod-lt mask (pow_pos j) in
    let whole : high * w + low ≡ mask = div-add-mod' mask w in
    let odd : high % 2 ≡ 1 = on in
    let some_ : (high - 1) + 1 ≡ high = omega arith in
    let split : ((high - 1) + 1) * w ≡ (high - 1) * w + 1 * w = add-mul (high - 1) 1 w in
    let again : high * w ≡ (high - 1) * w + 1 * w = subst (λ (h : ℕ). h * w ≡ (high - 1) * w + 1 * w) some_ split in
    let less : mask - w ≡ (high - 1) * w + low = omega arith in
    let down : (mask - w) / w ≡ high - 1 = ap (λ (n : ℕ). n / w) less ∙ div-mul-add (high - 1) w low small in
    let even : (high - 1) % 2 ≡ 0 = omega arith in
    ap (λ (n : ℕ). n % 2) down ∙ even

without_below : (mask j w : ℕ) → mask < 2 ^ w → without_bit mask j < 2 ^ w
without_below mask j w small = cond_both (has_bit mask j) (mask - 2 ^ j) mask (λ (n : ℕ). n < 2 ^ w) (λ _. omega arith) (λ _. small)

without_it : (mask j : ℕ) → bit_at (without_bit mask j) j ≡ 0
without_it mask j = cond_both (has_bit mask j) (mask - 2 ^ j) mask (λ (n : ℕ). bit_at n j ≡ 0) (λ on. taken_out mask j (bit_on mask j on)) (λ off. bit_off mask j off)

-- the members of a group are federates that there are
members_below : (f : Parts) → IsFederation f → (g : ℕ) → (group_at f g).members < 2 ^ length f.federates
members_below f sound g = ⊎_elim
    (λ (inside : g < length f.groups). (All-get_or (IsGroup (length f.federates)) f.groups g no_group inside sound.groups.each).members)
    (λ (past : length f.groups ≤ g). subst (λ (x : Group). x.members < 2 ^ length f.federates) (sym (get_or_past f.groups g no_group past)) (pow_pos (length f.federates)))
    (cases_lt g (length f.groups))

pub receivers_below : (f : Parts) → IsFederation f → (sender g : ℕ) → receivers_of f sender g < 2 ^ length f.federates
receivers_below f sound sender g = without_below (group_at f g).members sender (length f.federates) (members_below f sound g)

pub receivers_without : (f : Parts) (sender g : ℕ) → bit_at (receivers_of f sender g) sender ≡ 0
receivers_without f sender g = without_it (group_at f g).members sender

-- a transported message is in time, somebody receives it, and its group is there
pub transported_early : (f : Parts) (m : Message) → is_transported f m ≡ true → m.time ≤ f.end
transported_early f m is = leb-true m.time f.end (and_parts (nat_le m.time f.end) (not (receivers_of f m.sender m.group == 0)) is).0

pub transported_some : (f : Parts) (m : Message) → is_transported f m ≡ true → receivers_of f m.sender m.group ≢ 0
transported_some f m is =
    let none : (receivers_of f m.sender m.group == 0) ≡ false = not-true (receivers_of f m.sender m.group == 0) (and_parts (nat_le m.time f.end) (not (receivers_of f m.sender m.group == 0)) is).1 in
    eqb-false (receivers_of f m.sender m.group) 0 none

-- no bit of 0 is set, so nobody receives what is sent to a group that is not there
none_without : (j : ℕ) → without_bit 0 j ≡ 0
none_without j = cond_both (has_bit 0 j) (0 - 2 ^ j) 0 (λ (n : ℕ). n ≡ 0) (λ _. omega arith) (λ _. refl)

pub transported_group : (f : Parts) (m : Message) → is_transported f m ≡ true → m.group < length f.groups
transported_group f m is = ⊎_elim
    (λ (inside : m.group < length f.groups). inside)
    (λ (past : length f.groups ≤ m.group). absurd (transported_some f m is (ap (λ (x : Group). without_bit x.members m.sender) (get_or_past f.groups m.group no_group past) ∙ none_without m.sender)))
    (cases_lt m.group (length f.groups))
