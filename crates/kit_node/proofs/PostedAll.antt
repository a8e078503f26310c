-- One message of the outbox after another is posted, each in a buffer that was found free.
use Rattle.std.proofs.Common.{◌≡◌, ℕ, zero, suc, ◌+◌, ◌-◌, ◌<◌, nat_lt, Bool, true, false, List, [], ◌∷◌, ◌++◌, length, take, drop, Some, None, refl, sym, ap, ◌∙◌, subst, arith}
use Rattle.std.specs.Prelude.{slice_index_or}
use Rattle.std.proofs.lemmas.Bool.{lt-ltb}
use Rattle.std.proofs.lemmas.List.{append-nil, append_assoc, drop-drop, length-drop}
use Rattle.std.proofs.lemmas.List.Concat.{flat_map-append}
use Rattle.kit_base.specs.declared.message.Message.{Message}
use Rattle.kit_ground.specs.declared.place.Place.{Place}
use Rattle.kit_rules.specs.Step.{no_message}
use Rattle.kit_lbts.specs.declared.view.LbtsView.{LbtsView}
use Rattle.kit_lbts.specs.declared.view.Posting.{Posting}
use Rattle.kit_node.specs.Frames.{IsSameSeat}
use Rattle.kit_node.specs.Looks.{HasFoundNone, LooksAtCounts}
use Rattle.kit_node.specs.Sending.{HasPosted, HasSent, Waits, copies_of, copies_of_all}
use Rattle.kit_node.proofs.Drops.{nothing_left}

abbrev P : Type 0
P = Place LbtsView

seat_on : (p q r : P) → IsSameSeat p q → IsSameSeat q r → IsSameSeat p r
seat_on p q r a b = record {
  number = b.number ∙ a.number;
  federates = b.federates ∙ a.federates;
  buffers = b.buffers ∙ a.buffers;
  steps = let x = a.steps in let y = b.steps in omega arith;
  stops = b.stops ∙ a.stops;
}

-- nothing was posted yet
pub posted_none : (p : P) → HasPosted 0 p p
posted_none p = record {
  seat = record { number = refl; federates = refl; buffers = refl; steps = omega arith; stops = refl };
  registers = refl;
  mail = refl;
  stop = refl;
  shown = refl;
  collects = refl;
  holds = refl;
  few = omega arith;
  posted = sym (append-nil p.client.posted);
  left = refl;
  view = refl;
}

-- looks at own counts post nothing
pub posted_after_looks : (count : ℕ) (p q r : P) → HasPosted count p q → LooksAtCounts q r → HasPosted count p r
posted_after_looks count p q r a b = record {
  seat = seat_on p q r a.seat b.seat;
  registers = b.registers ∙ a.registers;
  mail = b.mail ∙ a.mail;
  stop = b.stop ∙ a.stop;
  shown = b.shown ∙ a.shown;
  collects = b.collects ∙ a.collects;
  holds = b.holds ∙ a.holds;
  few = a.few;
  posted = ap (λ (c : LbtsView). c.posted) b.view ∙ a.posted;
  left = ap (λ (c : LbtsView). c.outbox) b.view ∙ a.left;
  view = subst (λ (c : LbtsView). c ≡ record p.client { outbox = c.outbox; posted = c.posted; filled = c.filled }) (sym b.view) a.view;
}

-- the first of what is left is the next of all
take_next : {X : Type 0} (n : ℕ) (xs : List X) → take (n + 1) xs ≡ take n xs ++ take 1 (drop n xs)
take_next n xs = let next : n + 1 ≡ suc n = omega arith in ap (λ (k : ℕ). take k xs) next ∙ go n xs
  where
    go : {X : Type 0} (n : ℕ) (xs : List X) → take (suc n) xs ≡ take n xs ++ take 1 (drop n xs)
    go zero [] = refl
    go zero (x ∷ xs) = refl
    go (suc n) [] = refl
    go {X} (suc n) (x ∷ xs) = ap (λ (l : List X). x ∷ l) (go n xs)

-- the copies of messages are the same after posts
copies_same : (p q : P) (n : ℕ) (ms : List Message) → q.client ≡ record p.client { outbox = q.client.outbox; posted = q.client.posted; filled = q.client.filled } → copies_of_all q.client n ms ≡ copies_of_all p.client n ms
copies_same p q n ms view = ap (λ (c : LbtsView). copies_of_all c n ms) view

pub posted_more : (count : ℕ) (p q r : P) → HasPosted count p q → HasPosted 1 q r → HasPosted (count + 1) p r
posted_more count p q r a b =
    let v : LbtsView = p.client in
    let n : ℕ = p.own.federates in
    let next : take (count + 1) v.outbox ≡ take count v.outbox ++ take 1 q.client.outbox = take_next count v.outbox ∙ ap (λ (l : List Message). take count v.outbox ++ take 1 l) (sym a.left) in
    let all : copies_of_all v n (take (count + 1) v.outbox) ≡ copies_of_all v n (take count v.outbox) ++ copies_of_all v n (take 1 q.client.outbox) =
    ap (copies_of_all v n) next ∙ flat_map-append (copies_of v n) (take count v.outbox) (take 1 q.client.outbox) in
    let last : copies_of_all q.client q.own.federates (take 1 q.client.outbox) ≡ copies_of_all v n (take 1 q.client.outbox) =
    copies_same p q q.own.federates (take 1 q.client.outbox) a.view ∙ ap (λ (x : ℕ). copies_of_all v x (take 1 q.client.outbox)) a.seat.federates in
    let left : length q.client.outbox ≡ length v.outbox - count = ap length a.left ∙ length-drop count v.outbox in
    let one = b.few in
    record {
      seat = seat_on p q r a.seat b.seat;
      registers = b.registers ∙ a.registers;
      mail = b.mail ∙ a.mail;
      stop = b.stop ∙ a.stop;
      shown = b.shown ∙ a.shown;
      collects = b.collects ∙ a.collects;
      holds = b.holds ∙ a.holds;
      few = omega arith;
      posted =
          b.posted ∙ ((λ i. a.posted i ++ last i)
          ∙ (append_assoc v.posted (copies_of_all v n (take count v.outbox)) (copies_of_all v n (take 1 q.client.outbox))
          ∙ ap (λ (l : List Posting). v.posted ++ l) (sym all)));
      left = b.left ∙ (ap (drop 1) a.left ∙ drop-drop 1 count v.outbox);
      view = b.view ∙ ap (λ (c : LbtsView). record c { outbox = r.client.outbox; posted = r.client.posted; filled = r.client.filled }) a.view;
    }

-- from p to q some were posted, and it says whether
pub record HasPostedSome (posted : Bool) (p q : P) : Type 0 where
  pub count : ℕ
  pub done : HasPosted count p q
  pub some : posted ≡ nat_lt 0 count

pub some_none : (p : P) → HasPostedSome false p p
some_none p = record { count = 0; done = posted_none p; some = refl }

pub some_more : (posted : Bool) (p q r s : P) → HasPostedSome posted p q → LooksAtCounts q r → HasPosted 1 r s → HasPostedSome true p s
some_more posted p q r s a looks b = record {
  count = a.count + 1;
  done = posted_more a.count p r s (posted_after_looks a.count p q r a.done looks) b;
  some = sym (lt-ltb 0 (a.count + 1) (omega arith));
}

-- no message is half posted
pub still_whole : (posted : Bool) (p q : P) → HasPostedSome posted p q → p.client.sending ≡ None → q.client.sending ≡ None
still_whole posted p q a whole = ap (λ (c : LbtsView). c.sending) a.done.view ∙ whole

-- all were posted
pub sent_all : (posted : Bool) (p q : P) → HasPostedSome posted p q → q.client.outbox ≡ [] → HasSent posted None p q
sent_all posted p q a none = record {
  count = a.count;
  done = a.done;
  some = a.some;
  all = λ _. nothing_left a.count p.client.outbox a.done.few (sym a.done.left ∙ none);
  next = tt;
}

-- no buffer was found free for the next one
pub sent_some : (posted : Bool) (p q r : P) (m : Message) (rest : List Message) → HasPostedSome posted p q → LooksAtCounts q r → HasFoundNone q q.own.buffers r → q.client.outbox ≡ m ∷ rest → HasSent posted (Some m.number) p r
sent_some posted p q r m rest a looks none is =
    let here : r.client.outbox ≡ m ∷ rest = ap (λ (c : LbtsView). c.outbox) looks.view ∙ is in
    let waits : Waits m.number p r = record {
      some = λ e. absurd (let no : m ∷ rest ≡ [] = sym here ∙ e in (cc));
      number_is = ap (λ (l : List Message). (slice_index_or l 0 no_message).number) here;
      full = λ k lt. let f = none k (subst (λ (b : ℕ). k < b) looks.seat.buffers lt) in (let s = f.0 in let before = a.done.seat.steps in omega arith, f.1);
    } in
    record {
      count = a.count;
      done = posted_after_looks a.count p q r a.done looks;
      some = a.some;
      all = λ e. absurd (cc);
      next = waits;
    }
