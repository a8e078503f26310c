-- The first entry of a queue that can be settled: its buffer is held for it alone, so to give it up settles it.
use Rattle.std.proofs.Common.{◌≡◌, ℕ, zero, suc, get_or, ◌+◌, ◌<◌, ◌≤◌, nat_lt, Bool, true, false, cond, not, ⊎_elim, List, [], ◌∷◌, map, filter, find, Option, Some, None, is_some, refl, sym, ap, ◌∙◌, subst, arith}
use Rattle.std.specs.List.{count_by, list_any, All, Contains}
use Rattle.std.specs.Prelude.{slice_index, IfSome}
use Rattle.std.specs.Int.{bit_at}
use Rattle.std.specs.Option.{option_and_then, option_map}
use Rattle.std.proofs.lemmas.Bool.{and_parts, cases_Bool, false_from_ne_true, ltb-true}
use Rattle.std.proofs.lemmas.List.Elements.{All-contains, All-cons, Contains-get_or}
use Rattle.std.proofs.lemmas.Nat.Bits.{bit_at-lt}
use Rattle.kit_queue.specs.declared.entry.Entry.{Entry}
use Rattle.kit_queue.specs.Entries.{buffer_of, first_buffer, is_settleable, without_buffer, with_first_settled}
use Rattle.kit_lbts.specs.Views.{is_in_hand, is_spent}
use Rattle.kit_lbts.specs.Promises.{bound_of}
use Rattle.kit_lbts.specs.MessageLaws.{SettlesTell}
use Rattle.kit_lbts.specs.Rule.{FederateRule, lbts_rule}
use Rattle.kit_lbts.specs.Seats.{waits_in}
use Rattle.kit_lbts.proofs.Hands.{count_any, count_cons, count_has, found_passes, give_up, one_if, waits_here}
use Rattle.kit_lbts.proofs.Pendings.{any_at}

-- what the first buffer tells
pub record IsFirst (below i k : ℕ) (es : List Entry) (e : Entry) : Type 0 where
  pub found : find (is_settleable below) es ≡ Some e
  pub sender : e.message.sender ≡ i
  pub buffer : e.buffer ≡ Some k
  pub time : e.message.time < below

first_is : (below i k : ℕ) (es : List Entry) → first_buffer below es ≡ Some (i, k) → (e : Entry) × IsFirst below i k es e
first_is below i k es h = by (find (is_settleable below) es) refl h
  where
    by_buffer : (e : Entry) (o : Option ℕ) → e.buffer ≡ o → option_map {U = ℕ × ℕ} (λ (b : ℕ). (e.message.sender, b)) o ≡ Some (i, k) → (e.message.sender ≡ i) × (e.buffer ≡ Some k)
    by_buffer e None is g = absurd (cc)
    by_buffer e (Some b) is g =
        let pair : (e.message.sender, b) ≡ (i, k) = some_is g in
        (ap (λ (x : ℕ × ℕ). x.0) pair, is ∙ ap (λ (x : ℕ × ℕ). Some x.1) pair)
      where
        some_is : {A : Type 0} {a c : A} → Some a ≡ Some c → a ≡ c
        some_is {A} {a} {c} h = cc

    by : (o : Option Entry) → find (is_settleable below) es ≡ o → option_and_then buffer_of o ≡ Some (i, k) → (e : Entry) × IsFirst below i k es e
    by None is g = absurd (cc)
    by (Some e) is g =
        let t = by_buffer e e.buffer refl g in
        let pass = (found_passes (is_settleable below) es e is).0 in
        (e, record { found = is; sender = t.0; buffer = t.1; time = ltb-true e.message.time below (and_parts (nat_lt e.message.time below) (is_some e.buffer) pass).0 })

-- where none waits in the buffer nothing is given up
kept_all : (i k : ℕ) (es : List Entry) → count_by (waits_in i k) es ≡ 0 → map (give_up i k) es ≡ es
kept_all i k [] h = refl
kept_all i k (x ∷ xs) h = ⊎_elim
    (λ (e : waits_in i k x ≡ true). absurd (let c = count_cons (waits_in i k) x xs in let o : one_if (waits_in i k x) ≡ 1 = ap one_if e in omega arith))
    (λ (e : waits_in i k x ≡ false).
    let c = count_cons (waits_in i k) x xs in
    let z : count_by (waits_in i k) xs ≡ 0 = omega arith in
    (λ t. cond (e t) (without_buffer x) x ∷ kept_all i k xs z t))
    (cases_Bool (waits_in i k x))

-- the one that waits in it is the first that can be settled
settles_one : (below i k : ℕ) (es : List Entry) (e : Entry) → IsFirst below i k es e → count_by (waits_in i k) es ≤ 1 → map (give_up i k) es ≡ with_first_settled below es
settles_one below i k [] e h few = absurd (let f = h.found in cc)
settles_one below i k (x ∷ xs) e h few = ⊎_elim
    (λ (yes_ : is_settleable below x ≡ true).
    let same : x ≡ e = some_is (sym (ap (λ (b : Bool). cond b (Some x) (find (is_settleable below) xs)) yes_) ∙ h.found) in
    let waits : waits_in i k x ≡ true = waits_here i k x (ap (λ (y : Entry). y.message.sender) same ∙ h.sender) (ap (λ (y : Entry). y.buffer) same ∙ h.buffer) in
    let c = count_cons (waits_in i k) x xs in
    let o : one_if (waits_in i k x) ≡ 1 = ap one_if waits in
    let z : count_by (waits_in i k) xs ≡ 0 = omega arith in
    (λ t. cond (waits t) (without_buffer x) x ∷ kept_all i k xs z t) ∙ ap (λ (b : Bool). cond b (without_buffer x ∷ xs) (x ∷ with_first_settled below xs)) (sym yes_))
    (λ (not_ : is_settleable below x ≡ false).
    let rest : find (is_settleable below) xs ≡ Some e = sym (ap (λ (b : Bool). cond b (Some x) (find (is_settleable below) xs)) not_) ∙ h.found in
    let there : 0 < count_by (waits_in i k) xs = count_has (waits_in i k) xs e (found_passes (is_settleable below) xs e rest).1 (waits_here i k e h.sender h.buffer) in
    let c = count_cons (waits_in i k) x xs in
    let past : waits_in i k x ≡ false = false_from_ne_true (waits_in i k x) (λ g. let o : one_if (waits_in i k x) ≡ 1 = ap one_if g in omega arith) in
    let fewer : count_by (waits_in i k) xs ≤ 1 = omega arith in
    (λ t. cond (past t) (without_buffer x) x ∷ settles_one below i k xs e (record { found = rest; sender = h.sender; buffer = h.buffer; time = h.time }) fewer t)
    ∙ ap (λ (b : Bool). cond b (without_buffer x ∷ xs) (x ∷ with_first_settled below xs)) (sym not_))
    (cases_Bool (is_settleable below x))
  where
    some_is : {a c : Entry} → Some a ≡ Some c → a ≡ c
    some_is {a} {c} h = cc

-- and all that wait in it are timed below
all_below : (v i k : ℕ) (es : List Entry) (e : Entry) → Contains es e → waits_in i k e ≡ true → e.message.time < v → count_by (waits_in i k) es ≤ 1
    → All (λ (x : Entry). waits_in i k x ≡ true → x.message.time < v) es
all_below v i k [] e has waits lt few = absurd (let l = has.1 in omega arith)
all_below v i k (x ∷ xs) e (zero, l, is) waits lt few =
    All-cons (λ (x : Entry). waits_in i k x ≡ true → x.message.time < v) x xs (λ _. subst (λ (y : Entry). y.message.time < v) (sym is) lt)
    (λ n d ln g. absurd (
    let c = count_cons (waits_in i k) x xs in
    let o : one_if (waits_in i k x) ≡ 1 = ap one_if (ap (waits_in i k) is ∙ waits) in
    let h = count_has (waits_in i k) xs (get_or xs n d) (Contains-get_or xs n d ln) g in
    omega arith))
all_below v i k (x ∷ xs) e (suc n, l, is) waits lt few =
    let there : Contains xs e = (n, omega arith, is) in
    let c = count_cons (waits_in i k) x xs in
    let h = count_has (waits_in i k) xs e there waits in
    All-cons (λ (x : Entry). waits_in i k x ≡ true → x.message.time < v) x xs (λ g. absurd (let o : one_if (waits_in i k x) ≡ 1 = ap one_if g in omega arith))
    (all_below v i k xs e there waits lt (omega arith))

one_reason : (h a b c : ℕ) → h ≡ a + b + c → h < 2 → 0 < b → (h ≡ 1) × (b ≤ 1) × (c ≡ 0)
one_reason h a b c e lt pos = (omega arith, omega arith, omega arith)

pub settles_tell : SettlesTell lbts_rule
settles_tell p below i k le first m places w =
    let rule : FederateRule m places p.own.number p = w.client.each p.own.number p w.here in
    let t = first_is below i k p.client.queue first in
    let e : Entry = t.0 in
    let has = (found_passes (is_settleable below) p.client.queue e t.1.found).1 in
    let waits : waits_in i k e ≡ true = waits_here i k e t.1.sender t.1.buffer in
    let inside = All-contains (λ (e : Entry). (e.message.sender < p.own.federates) × IfSome e.buffer (λ k. k < p.own.buffers)) p.client.queue e rule.holdings.queue has in
    let li : i < p.own.federates = subst (λ (n : ℕ). n < p.own.federates) t.1.sender inside.0 in
    let lk : k < p.own.buffers = subst (λ (o : Option ℕ). IfSome o (λ k. k < p.own.buffers)) t.1.buffer inside.1 in
    let some_waits : 0 < count_by (waits_in i k) p.client.queue = count_has (waits_in i k) p.client.queue e has waits in
    let one = one_reason (bit_at (slice_index p.own.stock.holds i) k) (count_by (is_in_hand i k) p.client.in_hand) (count_by (waits_in i k) p.client.queue) (count_by (is_spent i k) p.client.spent)
    (rule.holdings.each i k li lk) (bit_at-lt (slice_index p.own.stock.holds i) k) some_waits in
    let clear : list_any (is_spent i k) p.client.spent ≡ false = false_from_ne_true (list_any (is_spent i k) p.client.spent) (λ g. let c = count_any (is_spent i k) p.client.spent g in let z = one.2 in absurd (omega arith)) in
    record {
      from = li;
      buffer = lk;
      held = one.0;
      may = record { waits = any_at (waits_in i k) p.client.queue e has waits; below = all_below (bound_of p.client) i k p.client.queue e has waits (let l = t.1.time in omega arith) one.1 };
      queue = ap (λ (b : Bool). (cond b (record p.client { spent = filter (λ s. not (is_spent i k s)) p.client.spent }) (record p.client { queue = map (give_up i k) p.client.queue })).queue) clear
          ∙ settles_one below i k p.client.queue e t.1 one.1;
    }
