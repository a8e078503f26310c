-- The places through which a seat goes when it receives a letter.
use Rattle.std.proofs.Common.{List, ◌≡◌, ℕ, ◌+◌, ◌*◌, ◌^◌, ◌<◌, max, length, refl, sym, ap, ◌∙◌, subst, arith, length-set, get_or-set_other, get_or-set_same}
use Rattle.std.proofs.lemmas.Nat.{mul-add-lt}
use Rattle.std.proofs.lemmas.Nat.Bits.{bit_at-lt, bit_at-zero, bit_at_or, same_from_bits}
use Rattle.std.specs.Prelude.{Some, bit_or, bit_xor, slice_index}
use Rattle.std.specs.Int.{bit_at}
use Rattle.kit_ground.specs.declared.address.Address.{Address}
use Rattle.kit_ground.specs.declared.address.Address.TheVariants.{Mail, Part}
use Rattle.kit_ground.specs.declared.place.Deed.TheVariants.{Collected, ReadPart, Released}
use Rattle.kit_ground.specs.declared.place.Glance.{Glance}
use Rattle.kit_ground.specs.declared.place.Place.{Place}
use Rattle.kit_ground.specs.Memory.{Memory}
use Rattle.kit_ground.specs.Rules.{WasFound, World}
use Rattle.kit_ground.specs.Layout.{mail_words}
use Rattle.kit_ground.specs.Steps.{place_after, mail_mask}
use Rattle.kit_ground.proofs.Bits.{flipped_else, flipped_here}
use Rattle.kit_ground.proofs.MailWords.{mask_here}
use Rattle.kit_ground.proofs.PlaceSteps.{stage}
use Rattle.kit_ground.proofs.WorldFacts.{fits_here, holds_long, mail_is_of_buffers}
use Rattle.kit_courier.specs.declared.view.CourierView.{CourierView}
use Rattle.kit_courier.specs.Calls.{HasCollected, IsEmptied, IsReceived, IsUnmoved, ReceiveLeaves, held_of, last_mail, place_of_mail}
use Rattle.kit_courier.specs.Couriers.{courier_rule}
use Rattle.kit_courier.specs.Deliveries.{view_after}
use Rattle.kit_courier.specs.Letters.{WasSentTo, sent_by}
use Rattle.kit_courier.proofs.Receiving.{read_was_sent}

abbrev P : Type 0
P = Place CourierView

-- what a collect tells of the seat's lists, and of the buffers that were posted
module _ (p : P) (from : ℕ) (inside : from < p.own.federates) where
  pub in_holds : {a : Address} {word : ℕ} → WasFound courier_rule p a word → from < length p.own.stock.holds
  in_holds t = let long = holds_long courier_rule p t.0 t.1 t.2 in omega arith

  module _ (w : ℕ) (there : w < mail_words p.own.buffers) where
    in_words : (n : ℕ) → p.own.federates ≡ n → place_of_mail p from w < mail_words p.own.buffers * n
    in_words n many = mul-add-lt from (mail_words p.own.buffers) w n (omega arith) there

    pub in_mail : {a : Address} {word : ℕ} → WasFound courier_rule p a word → place_of_mail p from w < length p.own.mail
    in_mail t = let h = fits_here courier_rule p t.0 t.1 t.2 in subst (λ (x : ℕ). place_of_mail p from w < x) (sym h.mail) (in_words (length t.1) h.federates)

    pub collects_once : {a : Address} {word : ℕ} → WasFound courier_rule p a word → (mail : ℕ) → HasCollected p from w (place_after view_after (Collected from w mail) p)
    collects_once t mail =
        let h = fits_here courier_rule p t.0 t.1 t.2 in
        get_or-set_same p.own.collects (place_of_mail p from w) (slice_index p.own.collects (place_of_mail p from w) + 1) 0
        (subst (λ (x : ℕ). place_of_mail p from w < x) (sym h.collects) (in_words (length t.1) h.federates))

pub in_buffers : (p : P) (from w low : ℕ) → from < p.own.federates → {mail : ℕ} → bit_at mail low ≡ 1 → WasFound courier_rule p (Mail p.own.number from w) mail → 64 * w + low < p.own.buffers
in_buffers p from w low inside on t = (mail_is_of_buffers courier_rule p t.0 t.1 t.2 from w low inside (ap (λ (v : ℕ). bit_at v low) t.3 ∙ on)).1

-- a letter whose body was found was sent
pub told_sent : (p : P) (from k head body : ℕ) → p.client.reading ≡ Some (record { from = from; buffer = k; head = head }) → WasFound courier_rule p (Part from k 1) body
    → (m : Memory) × (places : List P) × World courier_rule p m places × WasSentTo (sent_by places from) p.own.number (record { head = head; body = body })
told_sent p from k head body reading t =
    let has = read_was_sent p t.0 t.1 t.2 from k head reading in
    (t.0, t.1, t.2, subst (λ (x : ℕ). WasSentTo (sent_by t.1 from) p.own.number (record { head = head; body = x })) t.3 has)

or_none : (x y : ℕ) → y ≡ 0 → bit_or x y ≡ x
or_none x y none = same_from_bits (bit_or x y) x (λ i.
    let joins : bit_at (bit_or x y) i ≡ max (bit_at x i) (bit_at y i) = bit_at_or x y i in
    let u : ℕ = bit_at x i in
    let v : ℕ = bit_at y i in
    let zero : v ≡ 0 = ap (λ (z : ℕ). bit_at z i) none ∙ bit_at-zero i in
    let most : max u v ≡ u = omega arith in
    joins ∙ most)

module _ (p : P) (from w mail low head body : ℕ) where
  -- the buffer
  abbrev k : ℕ
  k = 64 * w + low

  abbrev pub after_collect : P
  after_collect = place_after view_after (Collected from w mail) p

  abbrev pub with_head : P
  with_head = place_after view_after (ReadPart from k 0 head) after_collect

  abbrev pub with_body : P
  with_body = place_after view_after (ReadPart from k 1 body) with_head

  abbrev pub after_release : P
  after_release = place_after view_after (Released from k) with_body

  -- what a collect leaves, and what the whole call does
  pub collect_leaves : ReceiveLeaves p from w after_collect
  collect_leaves = record {
    looks = refl;
    stops = refl;
    registers = refl;
    counts = refl;
    stop = refl;
    shown = refl;
    buffers = refl;
    known = refl;
    sent = refl;
    mail = λ a other. get_or-set_other p.own.mail (place_of_mail p from w) a (record { step = p.own.steps + 1; gave = mail }) (record { step = 0; gave = 0 }) other;
    collects = λ a other. get_or-set_other p.own.collects (place_of_mail p from w) a (slice_index p.own.collects (place_of_mail p from w) + 1) 0 other;
    holds = λ i other. get_or-set_other p.own.stock.holds from i (bit_or (held_of p from) (mail_mask w mail)) 0 other;
  }

  pub receive_leaves : ReceiveLeaves p from w after_release
  receive_leaves = let h = collect_leaves in record {
    looks = refl;
    stops = refl;
    registers = refl;
    counts = refl;
    stop = refl;
    shown = refl;
    buffers = refl;
    known = refl;
    sent = refl;
    mail = h.mail;
    collects = h.collects;
    holds = λ i other. get_or-set_other after_collect.own.stock.holds from i (bit_xor (held_of after_collect from) (2 ^ k)) 0 other ∙ h.holds i other;
  }

  -- the steps of a letter that is received lead through these places
  module _ (q1 : P) (at1 : q1 ≡ after_collect) (q2 : P) (reads : q2 ≡ place_after view_after (ReadPart from k 0 head) q1) where
    pub at2 : q2 ≡ with_head
    at2 = stage view_after (ReadPart from k 0 head) after_collect q1 q2 reads at1

    module _ (q3 : P) (reads_on : q3 ≡ place_after view_after (ReadPart from k 1 body) q2) where
      pub at3 : q3 ≡ with_body
      at3 = stage view_after (ReadPart from k 1 body) with_head q2 q3 reads_on at2

      pub at4 : (q4 : P) → q4 ≡ place_after view_after (Released from k) q3 → q4 ≡ after_release
      at4 q4 releases = stage view_after (Released from k) with_body q3 q4 releases at3

  -- where nothing was posted
  module _ (wide : from < length p.own.stock.holds) (room : place_of_mail p from w < length p.own.mail) (none : mail ≡ 0) where
    pub nothing_came : IsUnmoved p from w after_collect
    nothing_came = record {
      steps = refl;
      got = refl;
      reading = refl;
      mail = ap (λ (s : Glance ℕ). s.gave) (get_or-set_same p.own.mail (place_of_mail p from w) (record { step = p.own.steps + 1; gave = mail }) (record { step = 0; gave = 0 }) room) ∙ none;
      held =
          let zero : mail_mask w mail ≡ 0 = ap (mail_mask w) none ∙ omega arith in
          get_or-set_same p.own.stock.holds from (bit_or (held_of p from) (mail_mask w mail)) 0 wide ∙ or_none (held_of p from) (mail_mask w mail) zero;
    }

  module _ (wide : from < length p.own.stock.holds) (on : bit_at mail low ≡ 1) where
    abbrev mask : ℕ
    mask = mail_mask w mail

    holds_all : held_of after_collect from ≡ bit_or (held_of p from) mask
    holds_all = get_or-set_same p.own.stock.holds from (bit_or (held_of p from) mask) 0 wide

    pub held : bit_at (held_of after_collect from) k ≡ 1
    held =
        let joins : bit_at (bit_or (held_of p from) mask) k ≡ max (bit_at (held_of p from) k) (bit_at mask k) = bit_at_or (held_of p from) mask k in
        let x : ℕ = bit_at (held_of p from) k in
        let y : ℕ = bit_at mask k in
        let small : x < 2 = bit_at-lt (held_of p from) k in
        let one : y ≡ 1 = mask_here w mail low ∙ on in
        let most : max x y ≡ 1 = omega arith in
        ap (λ (v : ℕ). bit_at v k) holds_all ∙ (joins ∙ most)

    holds_others : held_of after_release from ≡ bit_xor (held_of after_collect from) (2 ^ k)
    holds_others =
        let long : length after_collect.own.stock.holds ≡ length p.own.stock.holds = length-set p.own.stock.holds from (bit_or (held_of p from) mask) in
        get_or-set_same after_collect.own.stock.holds from (bit_xor (held_of after_collect from) (2 ^ k)) 0 (omega arith)

    module _ (room : place_of_mail p from w < length p.own.mail) (lowest : (i : ℕ) → i < low → bit_at mail i ≡ 0) where
      mail_seen : last_mail after_release from w ≡ mail
      mail_seen = ap (λ (s : Glance ℕ). s.gave) (get_or-set_same p.own.mail (place_of_mail p from w) (record { step = p.own.steps + 1; gave = mail }) (record { step = 0; gave = 0 }) room)

      emptied : IsEmptied p from w after_release
      emptied = record {
        low = low;
        posted = ap (λ (v : ℕ). bit_at v low) mail_seen ∙ on;
        lowest = λ i li. ap (λ (v : ℕ). bit_at v i) mail_seen ∙ lowest i li;
        released = ap (λ (v : ℕ). bit_at v k) holds_others ∙ flipped_here (held_of after_collect from) k held;
        others = λ i other. ap (λ (v : ℕ). bit_at v i) holds_others
            ∙ (flipped_else (held_of after_collect from) k i other ∙ ap (λ (v : ℕ). bit_at v i) (holds_all ∙ ap (λ (v : ℕ). bit_or (held_of p from) (mail_mask w v)) (sym mail_seen)));
      }

      pub arrives : WasFound courier_rule with_head (Part from k 1) body → IsReceived p from w (record { head = head; body = body }) after_release
      arrives t = record {
        steps = omega arith;
        got = refl;
        reading = refl;
        sent = record { seat = with_head; number = refl; since = omega arith; until = omega arith; world = told_sent with_head from k head body refl t };
        emptied = emptied;
      }
