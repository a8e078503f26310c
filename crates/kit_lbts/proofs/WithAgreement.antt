-- The laws of steps, with agreement.
use Rattle.std.proofs.Common.{◌+◌, ◌-◌, ◌/◌, ◌==◌, length, arith}
use Rattle.kit_ground.specs.declared.address.Address.TheVariants.{Register, Mail, Count, Part, Stop}
use Rattle.kit_ground.specs.declared.place.Deed.TheVariants.{Looked, Published, Stopped, SawStop, SawFree, Wrote, Charged, PostedTo, Collected, ReadPart, Released}
use Rattle.kit_model.specs.Shares.{share_word}
use Rattle.kit_lbts.specs.Agreement.{agreeing_rule}
use Rattle.kit_lbts.specs.LedgerLaws.{ready_place}
use Rattle.kit_lbts.specs.MessageLaws.{BodiesKeep, BodiesTell, ChargesKeep, CollectsKeep, CountLooksKeep, HeadsKeep, PostsKeep, ReleasesKeep, SettlesTell, WritesKeep}
use Rattle.kit_lbts.specs.Progress.{own_share}
use Rattle.kit_lbts.specs.Promises.{next_contribution, result_at}
use Rattle.kit_lbts.specs.PublishLaws.{BacksKeep, ContributionsKeep, ValuesKeep}
use Rattle.kit_lbts.specs.Reduction.{back_stage, published_share, reg_of, share_stage}
use Rattle.kit_lbts.specs.StepLaws.{LooksKeep, StopLooksKeep, StopsKeep}
use Rattle.kit_lbts.proofs.AgreementEnds.{told_with_agreement}
use Rattle.kit_lbts.proofs.BodyKinds.{bodies_keep, bodies_tell}
use Rattle.kit_lbts.proofs.ChargeSteps.{charges_keep}
use Rattle.kit_lbts.proofs.CollectSteps.{collects_keep}
use Rattle.kit_lbts.proofs.ContributionSteps.{contributions_keep}
use Rattle.kit_lbts.proofs.GrantAgreement.{without_agreement}
use Rattle.kit_lbts.proofs.HeadSteps.{heads_keep}
use Rattle.kit_lbts.proofs.IdleSteps.{count_looks_keep, stop_looks_keep, stops_keep, writes_keep}
use Rattle.kit_lbts.proofs.LookSteps.{looks_keep}
use Rattle.kit_lbts.proofs.OtherSteps.{others_agree}
use Rattle.kit_lbts.proofs.ReleaseSteps.{releases_keep}
use Rattle.kit_lbts.proofs.SendSteps.{posts_keep}
use Rattle.kit_lbts.proofs.Settling.{settles_tell}
use Rattle.kit_lbts.proofs.ValueSteps.{backs_keep, values_keep}

pub writes_agree : WritesKeep agreeing_rule
writes_agree p k part word lk free = others_agree p (Part p.own.number k part) (λ _. Wrote k part word) (λ _. tt) (writes_keep p k part word lk free)

pub charges_agree : ChargesKeep agreeing_rule
charges_agree p k mask first rest may = others_agree p (Count p.own.number k) (λ _. Charged k mask) (λ _. tt) (charges_keep p k mask first rest may)

pub posts_agree : PostsKeep agreeing_rule
posts_agree p k j lk lj owed = others_agree p (Mail j p.own.number (k / 64)) (λ _. PostedTo k j) (λ _. tt) (posts_keep p k j lk lj owed)

pub collects_agree : CollectsKeep agreeing_rule
collects_agree p i word li other lw few = others_agree p (Mail p.own.number i word) (λ mail. Collected i word mail) (λ _. tt) (collects_keep p i word li other lw few)

pub heads_agree : HeadsKeep agreeing_rule
heads_agree p i k li lk on = others_agree p (Part i k 0) (λ word. ReadPart i k 0 word) (λ _. tt) (heads_keep p i k li lk on)

pub bodies_agree : BodiesKeep agreeing_rule
bodies_agree p i k head li lk has = others_agree p (Part i k 1) (λ word. ReadPart i k 1 word) (λ _. tt) (bodies_keep p i k head li lk has)

pub bodies_told : BodiesTell agreeing_rule
bodies_told p i k head word li lk has told = bodies_tell p i k head word li lk has (told_with_agreement p (Part i k 1) word told)

pub releases_agree : ReleasesKeep agreeing_rule
releases_agree p i k li lk on may = others_agree p (Count i k) (λ _. Released i k) (λ _. tt) (releases_keep p i k li lk on may)

pub count_looks_agree : CountLooksKeep agreeing_rule
count_looks_agree p k lk = others_agree p (Count p.own.number k) (λ count. SawFree k (count == 0)) (λ _. tt) (count_looks_keep p k lk)

pub settles_told : SettlesTell agreeing_rule
settles_told p below i k le first m places w = settles_tell p below i k le first m places (without_agreement p m places w)

pub looks_agree : LooksKeep agreeing_rule
looks_agree p r = others_agree p (Register r) (λ word. Looked r word) (λ _. tt) (looks_keep p r)

pub stop_looks_agree : StopLooksKeep agreeing_rule
stop_looks_agree p = others_agree p Stop (λ word. SawStop (word == 1)) (λ _. tt) (stop_looks_keep p)

pub stops_agree : StopsKeep agreeing_rule
stops_agree p = others_agree p Stop (λ _. Stopped) (λ _. tt) (stops_keep p)

pub contributions_agree : ContributionsKeep agreeing_rule
contributions_agree p level shows idle few =
    let round = length p.client.contributions + 1 in
    let r = reg_of p.own.number share_stage round in
    others_agree p (Register r) (λ _. Published r (share_word (next_contribution (ready_place p)).share round)) (λ _ e. omega (arith, e)) (contributions_keep p level shows idle few)

pub values_agree : ValuesKeep agreeing_rule
values_agree p stage early does under has =
    let round = length p.client.contributions in
    let r = reg_of p.own.number stage round in
    others_agree p (Register r) (λ _. Published r (share_word (published_share p.client.scheme p.own.federates p.own.number (own_share p.client) p.client.taken stage) round)) (λ _ e. omega (arith, e, early))
    (values_keep p stage early does under has)

pub backs_agree : BacksKeep agreeing_rule
backs_agree p does level some_done =
    let round = length p.client.contributions in
    let r = reg_of p.own.number back_stage round in
    others_agree p (Register r) (λ _. Published r (share_word (result_at p.client (length p.client.results - 1)) round)) (λ _ e. omega (arith, e)) (backs_keep p does level some_done)
