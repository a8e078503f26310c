use Rattle.std.proofs.Common.{rules, ◌≡◌, ℕ, ◌<◌, sym, ap, ◌∙◌, subst, arith}
use Rattle.std.specs.Prelude.{slice_index, bit_or}
use Rattle.std.specs.Int.{bit_at}
use Rattle.kit_ground.specs.declared.place.Place.{Place}
use Rattle.kit_ground.specs.Coming.{AreSteps}
use Rattle.kit_ground.specs.Joining.{came_on}
use Rattle.kit_ground.specs.Floors.{Floor, place_of, new_floor}
use Rattle.kit_ground.specs.declared.place.Deed.TheVariants.{Collected}
use Rattle.kit_ground.specs.Rules.{own_at_first}
use Rattle.kit_ground.specs.Steps.{place_after, buffer_of, mail_mask}
use Rattle.kit_ground.proofs.MailWords.{some_words}
use Rattle.kit_ground.proofs.PlainSeats.{place_else}
use Rattle.kit_ground.specs.contracts.bare.BareProtocol.TheImpl.{first-value}
use Rattle.kit_ground.proofs.plain.tests.passes_a_buffer_on.Goals as goal

abbrev F : Type 0
F = Floor (Unit {0}) (Unit {0})

abbrev first : Unit {0} → ℕ → Unit {0}
first = first-value.it

abbrev P : Type 0
P = Place (Unit {0})

-- the place of the second federate after six steps of the first
second : (f a b d e h l : F) → f ≡ new_floor first tt 2 1 → AreSteps first f a → AreSteps first a b → AreSteps first b d → AreSteps first d e → AreSteps first e h → AreSteps first h l
    → place_of first (record l { seated = 1 }) ≡ record { own = own_at_first 2 1 1; client = tt }
second f a b d e h l is fa ab bd de eh hl =
    let on = came_on first in
    let all : AreSteps first f l = on f h l (on f e h (on f d e (on f b d (on f a b fa ab) bd) de) eh) hl in
    let zero : f.seated ≡ 0 = ap (λ (x : F). x.seated) is in
    place_else first f l all 1 (λ one. omega (arith, one, zero)) ∙ ap (λ (x : F). place_of first (record x { seated = 1 })) is

-- the sizes of the second federate's place
sizes : (p : P) → p ≡ record { own = own_at_first 2 1 1; client = tt } → (p.own.number ≡ 1) × (p.own.federates ≡ 2) × (p.own.buffers ≡ 1)
sizes p is = (ap (λ (x : P). x.own.number) is, ap (λ (x : P). x.own.federates) is, ap (λ (x : P). x.own.buffers) is)

pub collect-mail-requires-clause-from : goal.collect-mail-requires-clause-from
collect-mail-requires-clause-from g c =
    let is = ap (place_of first) c.seat.ensures.seated ∙ second _ _ _ _ _ _ _ c.in_ok-floor.ensures c.look_free.ensures.came c.write_part.ensures.came c.write_part-2.ensures.came c.charge.ensures.came c.post.ensures.came c.look_free-2.ensures.came in
    let n = (sizes _ is).1 in omega (arith, n)

pub collect-mail-requires-clause-other : goal.collect-mail-requires-clause-other
collect-mail-requires-clause-other g c =
    let is = ap (place_of first) c.seat.ensures.seated ∙ second _ _ _ _ _ _ _ c.in_ok-floor.ensures c.look_free.ensures.came c.write_part.ensures.came c.write_part-2.ensures.came c.charge.ensures.came c.post.ensures.came c.look_free-2.ensures.came in
    let n = (sizes _ is).0 in λ e. omega (arith, n, e)

pub collect-mail-requires-clause-word : goal.collect-mail-requires-clause-word
collect-mail-requires-clause-word g c =
    let is = ap (place_of first) c.seat.ensures.seated ∙ second _ _ _ _ _ _ _ c.in_ok-floor.ensures c.look_free.ensures.came c.write_part.ensures.came c.write_part-2.ensures.came c.charge.ensures.came c.post.ensures.came c.look_free-2.ensures.came in
    let n = (sizes _ is).2 in some_words _ (omega (arith, n))

pub collect-rest-requires-clause-from : goal.collect-rest-requires-clause-from
collect-rest-requires-clause-from g c =
    let is = ap (place_of first) c.seat.ensures.seated ∙ second _ _ _ _ _ _ _ c.in_ok-floor.ensures c.look_free.ensures.came c.write_part.ensures.came c.write_part-2.ensures.came c.charge.ensures.came c.post.ensures.came c.look_free-2.ensures.came in
    let n = (sizes _ is).1 in let a = ap (λ (x : P). x.own.federates) c.collect-mail.ensures.place in omega (arith, n, a)

pub collect-rest-requires-clause-other : goal.collect-rest-requires-clause-other
collect-rest-requires-clause-other g c =
    let is = ap (place_of first) c.seat.ensures.seated ∙ second _ _ _ _ _ _ _ c.in_ok-floor.ensures c.look_free.ensures.came c.write_part.ensures.came c.write_part-2.ensures.came c.charge.ensures.came c.post.ensures.came c.look_free-2.ensures.came in
    let n = (sizes _ is).0 in let a = ap (λ (x : P). x.own.number) c.collect-mail.ensures.place in λ e. omega (arith, n, a, e)

pub collect-rest-requires-clause-word : goal.collect-rest-requires-clause-word
collect-rest-requires-clause-word g c =
    let is = ap (place_of first) c.seat.ensures.seated ∙ second _ _ _ _ _ _ _ c.in_ok-floor.ensures c.look_free.ensures.came c.write_part.ensures.came c.write_part-2.ensures.came c.charge.ensures.came c.post.ensures.came c.look_free-2.ensures.came in
    let n = (sizes _ is).2 in let a = ap (λ (x : P). x.own.buffers) c.collect-mail.ensures.place in some_words _ (omega (arith, n, a))

pub read_part-requires-clause-from : goal.read_part-requires-clause-from
read_part-requires-clause-from g c =
    let is = ap (place_of first) c.seat.ensures.seated ∙ second _ _ _ _ _ _ _ c.in_ok-floor.ensures c.look_free.ensures.came c.write_part.ensures.came c.write_part-2.ensures.came c.charge.ensures.came c.post.ensures.came c.look_free-2.ensures.came in
    let n = (sizes _ is).1 in let a = ap (λ (x : P). x.own.federates) c.collect-mail.ensures.place in let b = ap (λ (x : P). x.own.federates) c.collect-rest.ensures.place in omega (arith, n, a, b)

pub read_part-requires-clause-buffer : goal.read_part-requires-clause-buffer
read_part-requires-clause-buffer g c =
    let is = ap (place_of first) c.seat.ensures.seated ∙ second _ _ _ _ _ _ _ c.in_ok-floor.ensures c.look_free.ensures.came c.write_part.ensures.came c.write_part-2.ensures.came c.charge.ensures.came c.post.ensures.came c.look_free-2.ensures.came in
    let n = (sizes _ is).2 in let a = ap (λ (x : P). x.own.buffers) c.collect-mail.ensures.place in let b = ap (λ (x : P). x.own.buffers) c.collect-rest.ensures.place in omega (arith, n, a, b)

pub release-requires-clause-from : goal.release-requires-clause-from
release-requires-clause-from g c =
    let is = ap (place_of first) c.seat.ensures.seated ∙ second _ _ _ _ _ _ _ c.in_ok-floor.ensures c.look_free.ensures.came c.write_part.ensures.came c.write_part-2.ensures.came c.charge.ensures.came c.post.ensures.came c.look_free-2.ensures.came in
    let n = (sizes _ is).1 in let a = ap (λ (x : P). x.own.federates) c.collect-mail.ensures.place in let b = ap (λ (x : P). x.own.federates) c.collect-rest.ensures.place in let d = ap (λ (x : P). x.own.federates) c.read_part.ensures.place in omega (arith, n, a, b, d)

pub release-requires-clause-buffer : goal.release-requires-clause-buffer
release-requires-clause-buffer g c =
    let is = ap (place_of first) c.seat.ensures.seated ∙ second _ _ _ _ _ _ _ c.in_ok-floor.ensures c.look_free.ensures.came c.write_part.ensures.came c.write_part-2.ensures.came c.charge.ensures.came c.post.ensures.came c.look_free-2.ensures.came in
    let n = (sizes _ is).2 in let a = ap (λ (x : P). x.own.buffers) c.collect-mail.ensures.place in let b = ap (λ (x : P). x.own.buffers) c.collect-rest.ensures.place in let d = ap (λ (x : P). x.own.buffers) c.read_part.ensures.place in omega (arith, n, a, b, d)

-- after two collects, of which the first gave the bit of the buffer 0
held : (p q r : P) (mail rest : ℕ) → p ≡ record { own = own_at_first 2 1 1; client = tt } → q ≡ place_after (λ deed p. p.client) (Collected 0 0 mail) p → r ≡ place_after (λ deed p. p.client) (Collected 0 0 rest) q → mail ≡ 1 → rest ≡ 0
    → bit_at (slice_index r.own.stock.holds 0) 0 ≡ 1
held p q r mail rest is next last one none =
    ap (λ (x : P). bit_at (slice_index x.own.stock.holds 0) 0) last
    ∙ (ap (λ (x : P). bit_at (slice_index (place_after (λ deed p. p.client) (Collected 0 0 rest) x).own.stock.holds 0) 0) (next ∙ ap (λ (x : P). place_after (λ deed p. p.client) (Collected 0 0 mail) x) is)
    ∙ (λ i. bit_at (bit_or (bit_or 0 (mail_mask 0 (one i))) (mail_mask 0 (none i))) 0))

pub read_part-requires-clause-held : goal.read_part-requires-clause-held
read_part-requires-clause-held g c =
    let is = ap (place_of first) c.seat.ensures.seated ∙ second _ _ _ _ _ _ _ c.in_ok-floor.ensures c.look_free.ensures.came c.write_part.ensures.came c.write_part-2.ensures.came c.charge.ensures.came c.post.ensures.came c.look_free-2.ensures.came in
    held _ _ _ c.collect-mail.result c.collect-rest.result is c.collect-mail.ensures.place c.collect-rest.ensures.place (search rules) (search rules)

pub release-requires-clause-held : goal.release-requires-clause-held
release-requires-clause-held g c =
    let is = ap (place_of first) c.seat.ensures.seated ∙ second _ _ _ _ _ _ _ c.in_ok-floor.ensures c.look_free.ensures.came c.write_part.ensures.came c.write_part-2.ensures.came c.charge.ensures.came c.post.ensures.came c.look_free-2.ensures.came in
    ap (λ (x : P). bit_at (slice_index x.own.stock.holds 0) 0) c.read_part.ensures.place
    ∙ held _ _ _ c.collect-mail.result c.collect-rest.result is c.collect-mail.ensures.place c.collect-rest.ensures.place (search rules) (search rules)

-- the place of the first federate, seated again after four steps of the second
again : (a b d e h l : F) → a.seated ≡ 0 → b ≡ record a { seated = 1 } → AreSteps first b d → AreSteps first d e → AreSteps first e h → AreSteps first h l → place_of first (record l { seated = 0 }) ≡ place_of first a
again a b d e h l zero is bd de eh hl =
    let on = came_on first in
    let all : AreSteps first b l = on b h l (on b e h (on b d e bd de) eh) hl in
    let one : b.seated ≡ 1 = ap (λ (x : F). x.seated) is in
    place_else first b l all 0 (λ z. omega (arith, one, z)) ∙ ap (λ (x : F). place_of first (record x { seated = 0 })) is ∙ (λ i. place_of first (record a { seated = sym zero i }))

pub look_free-requires-3-clause-buffer : goal.look_free-requires-3-clause-buffer
look_free-requires-3-clause-buffer g c =
    let zero : c.look_free-2.new.self.seated ≡ 0 = c.look_free-2.ensures.came.seated ∙ (c.post.ensures.came.seated ∙ (c.charge.ensures.came.seated ∙ (c.write_part-2.ensures.came.seated ∙ (c.write_part.ensures.came.seated ∙ (c.look_free.ensures.came.seated ∙ ap (λ (x : F). x.seated) c.in_ok-floor.ensures))))) in
    let is = ap (place_of first) c.seat-2.ensures.seated ∙ again c.look_free-2.new.self _ _ _ _ _ zero c.seat.ensures.seated c.collect-mail.ensures.came c.collect-rest.ensures.came c.read_part.ensures.came c.release.ensures.came in
    subst (λ (x : P). 0 < x.own.buffers) (sym is) (search rules)

pub look_free-requires-3-clause-posted : goal.look_free-requires-3-clause-posted
look_free-requires-3-clause-posted g c =
    let zero : c.look_free-2.new.self.seated ≡ 0 = c.look_free-2.ensures.came.seated ∙ (c.post.ensures.came.seated ∙ (c.charge.ensures.came.seated ∙ (c.write_part-2.ensures.came.seated ∙ (c.write_part.ensures.came.seated ∙ (c.look_free.ensures.came.seated ∙ ap (λ (x : F). x.seated) c.in_ok-floor.ensures))))) in
    let is = ap (place_of first) c.seat-2.ensures.seated ∙ again c.look_free-2.new.self _ _ _ _ _ zero c.seat.ensures.seated c.collect-mail.ensures.came c.collect-rest.ensures.came c.read_part.ensures.came c.release.ensures.came in
    ap (λ (x : P). (buffer_of x.own.stock 0).to_post) is ∙ search rules
