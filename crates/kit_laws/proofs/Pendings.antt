-- What is pending while messages are sent and delivered, and when requests fall due.
use Rattle.std.proofs.Math.Bool.{or-true}
use Rattle.std.proofs.Common.{◌≡◌, ℕ, ◌+◌, ◌<◌, ◌≤◌, inl, inr, min, Bool, true, false, cond, not, ◌&&◌, ◌||◌, List, [], ◌∷◌, ◌++◌, filter, fold, nat_le, arith, refl, sym, subst, ap, ◌∙◌}
use Rattle.std.specs.List.{AllByRecursion, list_any}
use Rattle.std.proofs.lemmas.Bool.{and_parts, and_from, not-true, cases_Bool}
use Rattle.std.proofs.lemmas.Bool.Decides.{leb_tells}
use Rattle.std.proofs.lemmas.Bool.{eq-eqb}
use Rattle.std.proofs.lemmas.List.Elements.{filter-append}
use Rattle.kit_base.specs.declared.message.Message.{Message}
use Rattle.kit_base.proofs.Lists.{all-append, each_weaker}
use Rattle.kit_rules.specs.declared.table.Request.{Request}
use Rattle.kit_rules.specs.declared.table.Request.TheVariants as request
use Rattle.kit_rules.specs.Parts.{Parts}
use Rattle.kit_rules.specs.Step.{is_event}
use Rattle.kit_rules.proofs.Kept.{Later}
use Rattle.kit_base.specs.Order.{is_before, put}
use Rattle.kit_rules.specs.Delivery.{is_pending, pending_messages, is_transported, has_bit, receivers_of, is_same, retracts, is_due, due_messages, due_time}
use Rattle.kit_laws.proofs.Sane.{time_of}

pub any_left : {X : Type 0} (p : X → Bool) (xs ys : List X) → list_any p (xs ++ ys) ≡ false → list_any p xs ≡ false
any_left p [] ys h = refl
any_left p (x ∷ xs) ys h = elim (p x) as (λ b. (b || list_any p (xs ++ ys)) ≡ false → (b || list_any p xs) ≡ false) [ true ↦ λ e. e | false ↦ λ e. any_left p xs ys e ] h

pub any_right : {X : Type 0} (p : X → Bool) (xs ys : List X) → list_any p (xs ++ ys) ≡ false → list_any p ys ≡ false
any_right p [] ys h = h
any_right p (x ∷ xs) ys h = any_right p xs ys (elim (p x) as (λ b. (b || list_any p (xs ++ ys)) ≡ false → list_any p (xs ++ ys) ≡ false) [ true ↦ λ e. absurd (cc) | false ↦ λ e. e ] h)

pub not_false : (b : Bool) → b ≡ false → not b ≡ true
not_false b h = ap not h

-- the parts of pending
pub pending_event : (p : Parts) (i : ℕ) (got sent : List Message) (m : Message) → is_pending p i got sent m ≡ true → is_event m.kind ≡ true
pending_event p i got sent m h = (and_parts _ _ (and_parts _ _ (and_parts _ _ (and_parts (is_event m.kind && is_transported p m && has_bit (receivers_of p m.sender m.group) i && not (list_any (is_same m) got)) _ h).0).0).0).0

pub pending_front : (p : Parts) (i : ℕ) (got sent : List Message) (m : Message) → is_pending p i got sent m ≡ true → (is_event m.kind && is_transported p m && has_bit (receivers_of p m.sender m.group) i) ≡ true
pending_front p i got sent m h = (and_parts (is_event m.kind && is_transported p m && has_bit (receivers_of p m.sender m.group) i) _ (and_parts _ (not (list_any (retracts m) sent)) h).0).0

pub pending_got : (p : Parts) (i : ℕ) (got sent : List Message) (m : Message) → is_pending p i got sent m ≡ true → list_any (is_same m) got ≡ false
pending_got p i got sent m h = not-true _ (and_parts (is_event m.kind && is_transported p m && has_bit (receivers_of p m.sender m.group) i) (not (list_any (is_same m) got)) (and_parts _ (not (list_any (retracts m) sent)) h).0).1

pub pending_sent : (p : Parts) (i : ℕ) (got sent : List Message) (m : Message) → is_pending p i got sent m ≡ true → list_any (retracts m) sent ≡ false
pending_sent p i got sent m h = not-true _ (and_parts (is_event m.kind && is_transported p m && has_bit (receivers_of p m.sender m.group) i && not (list_any (is_same m) got)) (not (list_any (retracts m) sent)) h).1

-- what is pending when more was sent and delivered was pending before
pub pending_before : (p : Parts) (i : ℕ) (got more sent made : List Message) (m : Message) → is_pending p i (got ++ more) (sent ++ made) m ≡ true → is_pending p i got sent m ≡ true
pending_before p i got more sent made m h =
    and_from _ _
    (and_from _ _ (pending_front p i (got ++ more) (sent ++ made) m h)
    (not_false (list_any (is_same m) got) (any_left (is_same m) got more (pending_got p i (got ++ more) (sent ++ made) m h))))
    (not_false (list_any (retracts m) sent) (any_left (retracts m) sent made (pending_sent p i (got ++ more) (sent ++ made) m h)))

pub pending_before_sent : (p : Parts) (i : ℕ) (got sent made : List Message) (m : Message) → is_pending p i got (sent ++ made) m ≡ true → is_pending p i got sent m ≡ true
pending_before_sent p i got sent made m h =
    and_from _ _
    (and_from _ _ (pending_front p i got (sent ++ made) m h) (not_false (list_any (is_same m) got) (pending_got p i got (sent ++ made) m h)))
    (not_false (list_any (retracts m) sent) (any_left (retracts m) sent made (pending_sent p i got (sent ++ made) m h)))

-- filters
pub filter_each : {X : Type 0} (Q : X → Type 0) (p : X → Bool) (xs : List X) → AllByRecursion (λ x. p x ≡ true → Q x) xs → AllByRecursion Q (filter p xs)
filter_each Q p [] h = tt
filter_each Q p (x ∷ xs) h =
    elim (p x) as (λ b. (b ≡ true → Q x) → AllByRecursion Q (cond b (x ∷ filter p xs) (filter p xs))) [ true ↦ λ q. (q refl, filter_each Q p xs h.1) | false ↦ λ q. filter_each Q p xs h.1 ] h.0

pub each_filtered : {X : Type 0} (Q : X → Type 0) (p : X → Bool) (xs : List X) → AllByRecursion Q (filter p xs) → AllByRecursion (λ x. p x ≡ true → Q x) xs
each_filtered Q p [] h = tt
each_filtered Q p (x ∷ xs) h =
    elim (p x) as (λ b. AllByRecursion Q (cond b (x ∷ filter p xs) (filter p xs)) → (b ≡ true → Q x) × AllByRecursion (λ x. p x ≡ true → Q x) xs)
    [ true ↦ λ a. ((λ e. a.0), each_filtered Q p xs a.1) | false ↦ λ a. ((λ e. absurd (cc)), each_filtered Q p xs a) ] h

each_sub : {X : Type 0} (Q : X → Type 0) (p q : X → Bool) (xs : List X) → ((x : X) → q x ≡ true → p x ≡ true) → AllByRecursion (λ x. p x ≡ true → Q x) xs → AllByRecursion (λ x. q x ≡ true → Q x) xs
each_sub Q p q [] sub h = tt
each_sub Q p q (x ∷ xs) sub h = ((λ e. h.0 (sub x e)), each_sub Q p q xs sub h.1)

abbrev pub From : ℕ → Message → Type 0
From b m = b ≤ m.time

-- What is pending after more was sent is timed b or more, where what was pending and what was sent is.
pub pending_from : (p : Parts) (i b d : ℕ) (got sent made : List Message) → b ≤ d + 1 → AllByRecursion (From b) (pending_messages p i got sent) → AllByRecursion (Later d) made → AllByRecursion (From b) (pending_messages p i got (sent ++ made))
pending_from p i b d got sent made le old new =
    let q = is_pending p i got (sent ++ made) in
    let front : AllByRecursion (From b) (filter q sent) =
    filter_each (From b) q sent (each_sub (From b) (is_pending p i got sent) q sent (λ m e. pending_before_sent p i got sent made m e) (each_filtered (From b) (is_pending p i got sent) sent old)) in
    let back : AllByRecursion (From b) (filter q made) =
    filter_each (From b) q made (each_weaker (Later d) (λ m. q m ≡ true → From b m) made (λ m later e. let lt : d < m.time = later (pending_event p i got (sent ++ made) m e) in omega arith) new) in
    let P : List Message → Type 0 = AllByRecursion (From b) in
    subst P (sym (filter-append q sent made)) (all-append (From b) (filter q sent) (filter q made) front back)

-- the earliest
pub earliest_from : (b t : ℕ) (ms : List Message) → b ≤ t → AllByRecursion (From b) ms → b ≤ fold (λ (t : ℕ) (m : Message). min t m.time) t ms
earliest_from b t [] le h = le
earliest_from b t (m ∷ ms) le h = earliest_from b (min t m.time) ms (omega (arith, le, h.0)) h.1

pub earliest_low : (t : ℕ) (ms : List Message) → fold (λ (t : ℕ) (m : Message). min t m.time) t ms ≤ t
earliest_low t [] = omega arith
earliest_low t (m ∷ ms) = omega (arith, earliest_low (min t m.time) ms)

pub earliest_each : (b t : ℕ) (ms : List Message) → b ≤ fold (λ (t : ℕ) (m : Message). min t m.time) t ms → AllByRecursion (From b) ms
earliest_each b t [] h = tt
earliest_each b t (m ∷ ms) h = (omega (arith, h, earliest_low (min t m.time) ms), earliest_each b (min t m.time) ms h)

-- a request is due at b or later, where its time and all that is pending are
pub due_from : (b : ℕ) (r : Request) (ms : List Message) → b ≤ time_of r → AllByRecursion (From b) ms → b ≤ due_time r ms
due_from b (request.Tar t) ms le h = le
due_from b (request.Ner t) ms le h = earliest_from b t ms le h

pub due_capped : (r : Request) (ms : List Message) → due_time r ms ≤ time_of r
due_capped (request.Tar t) ms = omega arith
due_capped (request.Ner t) ms = earliest_low t ms

-- a request that was due at b or later is so after more was sent later than d
pub due_stays : (p : Parts) (i b d : ℕ) (r : Request) (got sent made : List Message) → b ≤ d + 1 → b ≤ due_time r (pending_messages p i got sent) → AllByRecursion (Later d) made → b ≤ due_time r (pending_messages p i got (sent ++ made))
due_stays p i b d (request.Tar t) got sent made le h new = h
due_stays p i b d (request.Ner t) got sent made le h new =
    earliest_from b t (pending_messages p i got (sent ++ made)) (omega (arith, h, earliest_low t (pending_messages p i got sent))) (pending_from p i b d got sent made le (earliest_each b t (pending_messages p i got sent) h) new)

-- what is put in order is kept
any_put : (p : Message → Bool) (m : Message) (xs : List Message) → list_any p (put m xs) ≡ (p m || list_any p xs)
any_put p m [] = refl
any_put p m (x ∷ xs) =
    elim (is_before m x) as (λ b. list_any p (cond b (m ∷ x ∷ xs) (x ∷ put m xs)) ≡ (p m || (p x || list_any p xs)))
    [ true ↦ refl | false ↦ ap (λ b. p x || b) (any_put p m xs) ∙ swapped (p x) (p m) (list_any p xs) ]
  where
    swapped : (a b c : Bool) → (a || (b || c)) ≡ (b || (a || c))
    swapped true true c = refl
    swapped true false c = refl
    swapped false true c = refl
    swapped false false c = refl

pub any_in_order : (p : Message → Bool) (acc xs : List Message) → list_any p xs ≡ true → list_any p (fold (λ (sorted : List Message) (m : Message). put m sorted) acc xs) ≡ true
any_in_order p acc [] h = absurd (cc)
any_in_order p acc (x ∷ xs) h =
    elim (cases_Bool (list_any p xs)) [
      | inl e ↦ any_in_order p (put x acc) xs e
      | inr e ↦ kept p (put x acc) xs (any_put p x acc ∙ ap (λ b. b || list_any p acc) (first (p x) (list_any p xs) h e))
    ]
  where
    first : (a b : Bool) → (a || b) ≡ true → b ≡ false → a ≡ true
    first true b h e = refl
    first false b h e = absurd (cc)

    kept : (p : Message → Bool) (acc xs : List Message) → list_any p acc ≡ true → list_any p (fold (λ (sorted : List Message) (m : Message). put m sorted) acc xs) ≡ true
    kept p acc [] h = h
    kept p acc (x ∷ xs) h = kept p (put x acc) xs (any_put p x acc ∙ ap (λ b. p x || b) h ∙ or-true (p x))

pub same_self : (m : Message) → is_same m m ≡ true
same_self m = and_from _ _ (and_from _ _ (eq-eqb m.time m.time refl) (eq-eqb m.sender m.sender refl)) (eq-eqb m.number m.number refl)

pub any_filter_more : (p d : Message → Bool) (x : Message) (xs : List Message) → list_any p (filter d xs) ≡ true → list_any p (filter d (x ∷ xs)) ≡ true
any_filter_more p d x xs h = elim (d x) as (λ b. list_any p (cond b (x ∷ filter d xs) (filter d xs)) ≡ true) [ true ↦ ap (λ b. p x || b) h ∙ or-true (p x) | false ↦ h ]

pub any_filter_here : (p d : Message → Bool) (x : Message) (xs : List Message) → d x ≡ true → p x ≡ true → list_any p (filter d (x ∷ xs)) ≡ true
any_filter_here p d x xs e h = rw e (ap (λ b. b || list_any p (filter d xs)) h)

pub gone_each : (p : Parts) (i d : ℕ) (got sent made : List Message) (xs : List Message)
    → ((m : Message) → list_any (is_same m) (filter (is_due p i d got sent) xs) ≡ true → list_any (is_same m) (due_messages p i d got sent) ≡ true)
    → AllByRecursion (λ m. is_pending p i (got ++ due_messages p i d got sent) (sent ++ made) m ≡ true → From (d + 1) m) xs
gone_each p i d got sent made [] given = tt
gone_each p i d got sent made (x ∷ xs) given =
    let due = due_messages p i d got sent in (
      (λ e. elim (leb_tells x.time d) [
        | inl early ↦ absurd (
            let before : is_pending p i got sent x ≡ true = pending_before p i got due sent made x e in
            let is : is_due p i d got sent x ≡ true = and_from (nat_le x.time d) (is_pending p i got sent x) early.0 before in
            let has : list_any (is_same x) due ≡ true = given x (any_filter_here (is_same x) (is_due p i d got sent) x xs is (same_self x)) in
            let none : list_any (is_same x) due ≡ false = any_right (is_same x) got due (pending_got p i (got ++ due) (sent ++ made) x e) in
            cc)
        | inr late ↦ (let lt : d < x.time = late.1 in omega arith)
      ]),
      gone_each p i d got sent made xs (λ m h. given m (any_filter_more (is_same m) (is_due p i d got sent) x xs h)),
    )

-- after a grant of d nothing pending is timed d or less
pub gone : (p : Parts) (i d : ℕ) (got sent made : List Message) → AllByRecursion (Later d) made → AllByRecursion (From (d + 1)) (pending_messages p i (got ++ due_messages p i d got sent) (sent ++ made))
gone p i d got sent made new =
    let q = is_pending p i (got ++ due_messages p i d got sent) (sent ++ made) in
    let front : AllByRecursion (From (d + 1)) (filter q sent) =
    filter_each (From (d + 1)) q sent (gone_each p i d got sent made sent (λ m h. any_in_order (is_same m) [] (filter (is_due p i d got sent) sent) h)) in
    let back : AllByRecursion (From (d + 1)) (filter q made) =
    filter_each (From (d + 1)) q made (each_weaker (Later d) (λ m. q m ≡ true → From (d + 1) m) made
    (λ m later e. let lt : d < m.time = later (pending_event p i (got ++ due_messages p i d got sent) (sent ++ made) m e) in omega arith) new) in
    let P : List Message → Type 0 = AllByRecursion (From (d + 1)) in
    subst P (sym (filter-append q sent made)) (all-append (From (d + 1)) (filter q sent) (filter q made) front back)
