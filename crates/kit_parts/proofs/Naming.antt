-- Messages of the simulation by sender and number, and what Retractions name.
use Rattle.std.proofs.Common.{ℕ, arith, sym, subst}
use Rattle.kit_parts.specs.Queues.{MessagesAreOne, RetractionsAreLike, RetractionsName, RetractedOnce}
use Rattle.kit_parts.proofs.Among.{Among, each_of, among_contains, contains_among}
use Rattle.kit_parts.proofs.Whole.{one_message, retraction_group, own_in, own_whole, whole_way, whole_seat, send_is}
use Rattle.kit_parts.proofs.Aiming.{aimed_after}
use Rattle.kit_parts.proofs.Gains.{Named}
use Rattle.kit_parts.proofs.Seats.{sound_after}
use Rattle.kit_rules.specs.Simulation.{Seat, simulation}
use Rattle.kit_rules.proofs.Backs.{Aims}
use Rattle.kit_parts.specs.Fronts.{part, seat_after}

pub messages_are_one_law : MessagesAreOne
messages_are_one_law p f a b ca cb s n = one_message p a b f (contains_among a _ ca) (contains_among b _ cb) s n

pub retractions_are_like_law : RetractionsAreLike
retractions_are_like_law p f m r cm cr e = retraction_group p m r f (contains_among m _ cm) (contains_among r _ cr) e

pub retractions_name_law : RetractionsName
retractions_name_law p f r c e =
    let a = contains_among r (simulation p).messages c in
    let o = own_in p r f a in
    let s = seat_after p r.sender (part p r.sender) in
    let n = each_of (Named s.state.sends) r s.state.sends (sound_after p r.sender (part p r.sender) f o.0).named o.1 e in
    let k = each_of (Aims s.state.sends) r s.state.sends (aimed_after p r.sender (part p r.sender)).aims o.1 e in
    let way = whole_way p f in
    let P : Seat → Type 0 = λ v. Among n.0 v.state.sends in
    let is = send_is p way.0 (simulation p) r.sender n.0 way.1 (subst P (sym (whole_seat p r.sender f o.0)) n.1) in
    (n.0, among_contains n.0 (simulation p).messages is.0, n.2.0, is.1, n.2.1, omega (arith, n.2.1, k.1), n.2.2, n.2.3)

pub retracted_once_law : RetractedOnce
retracted_once_law p f a b ca cb not_a not_b s v =
    let oa = own_in p a f (contains_among a (simulation p).messages ca) in
    let ob = own_in p b f (contains_among b (simulation p).messages cb) in
    let P : ℕ → Type 0 = λ k. Among b (own_whole p k) in
    (sound_after p a.sender (part p a.sender) f oa.0).once a b oa.1 (subst P (sym s) ob.1) not_a not_b v
