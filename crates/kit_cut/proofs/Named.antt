-- What a Retraction names among the messages that were pending at a cut, and among those that were sent since.
use Rattle.std.proofs.Common.{◌≡◌, ℕ, ◌<◌, ◌≤◌, Bool, true, false, cond, List, [], ◌∷◌, nat_eq, arith, refl, sym, ◌∙◌}
use Rattle.std.specs.List.{AllByRecursion}
use Rattle.std.proofs.lemmas.Bool.{and_parts, and_from, eq-eqb, eqb-true}
use Rattle.kit_base.specs.declared.message.Message.{Message}
use Rattle.kit_base.proofs.Lists.{each_weaker}
use Rattle.kit_oracle.proofs.Starting.{Timed}
use Rattle.kit_cut.specs.ValidCuts.{NumbersDiffer}
use Rattle.kit_cut.specs.SinceCut.{is_named, named_time}
use Rattle.kit_cut.proofs.Pairwise.{Pairwise, both_all}

-- what a Retraction names has this time
abbrev pub TimedAt : ℕ → Message → Message → Type 0
TimedAt t r x = x.sender ≡ r.sender → x.number ≡ r.value → x.time ≡ t

-- what is named has the sender and the number
named_parts : (r m : Message) → is_named r m ≡ true → (m.sender ≡ r.sender) × (m.number ≡ r.value)
named_parts r m h =
    let parts = and_parts (nat_eq m.sender r.sender) (nat_eq m.number r.value) h in
    (eqb-true m.sender r.sender parts.0, eqb-true m.number r.value parts.1)

-- and what has them is named
named_from : (r m : Message) → m.sender ≡ r.sender → m.number ≡ r.value → is_named r m ≡ true
named_from r m s n = and_from (nat_eq m.sender r.sender) (nat_eq m.number r.value) (eq-eqb m.sender r.sender s) (eq-eqb m.number r.value n)

-- where no two have one number of one sender, what is named has the time that is found
pub named_each : (r : Message) (ms : List Message) → Pairwise NumbersDiffer ms → AllByRecursion (TimedAt (named_time ms r) r) ms
named_each r [] h = tt
named_each r (m ∷ ms) h = by_test (named_each r ms h.1) (is_named r m) refl
  where
    by_test : AllByRecursion (TimedAt (named_time ms r) r) ms → (b : Bool) → is_named r m ≡ b → AllByRecursion (TimedAt (cond b m.time (named_time ms r)) r) (m ∷ ms)
    by_test rest true e =
        let parts = named_parts r m e in
        ((λ s n. refl), each_weaker (NumbersDiffer m) (TimedAt m.time r) ms (λ x differ s n. absurd (differ (parts.0 ∙ sym s) (parts.1 ∙ sym n))) h.0)
    by_test rest false e = ((λ s n. absurd (let named = named_from r m s n in cc)), rest)

-- where none is named, the time that is found is the Retraction's
named_none : (r : Message) (ms : List Message) → AllByRecursion (λ (m : Message). m.sender ≡ r.sender → m.number ≡ r.value → ⊥) ms → named_time ms r ≡ r.time
named_none r [] h = refl
named_none r (m ∷ ms) h = by_test (named_none r ms h.1) (is_named r m) refl
  where
    by_test : named_time ms r ≡ r.time → (b : Bool) → is_named r m ≡ b → cond b m.time (named_time ms r) ≡ r.time
    by_test rest true e = absurd (let parts = named_parts r m e in h.0 parts.0 parts.1)
    by_test rest false e = rest

-- what was sent since has numbers from n on, and what was pending has not: so a Retraction of what was sent since finds its own time
pub named_later : (r : Message) (n : ℕ) (pending sent : List Message) → AllByRecursion (λ (x : Message). x.sender ≡ r.sender → x.number < n) pending
    → AllByRecursion (λ (x : Message). x.sender ≡ r.sender → n ≤ x.number) sent → AllByRecursion (Timed r) sent → AllByRecursion (TimedAt (named_time pending r) r) sent
named_later r n pending sent before late timed =
    let Late : Message → Type 0 = λ x. x.sender ≡ r.sender → n ≤ x.number in
    each_weaker (λ x. Late x × Timed r x) (TimedAt (named_time pending r) r) sent
    (λ x known s is. known.1 s is ∙ sym (named_none r pending (others x (known.0 s) is)))
    (both_all Late (Timed r) sent late timed)
  where
    others : (x : Message) → n ≤ x.number → x.number ≡ r.value → AllByRecursion (λ (y : Message). y.sender ≡ r.sender → y.number ≡ r.value → ⊥) pending
    others x low is = each_weaker (λ (y : Message). y.sender ≡ r.sender → y.number < n) (λ (y : Message). y.sender ≡ r.sender → y.number ≡ r.value → ⊥) pending
        (λ y below s value. let high : y.number < n = below s in omega arith) before
