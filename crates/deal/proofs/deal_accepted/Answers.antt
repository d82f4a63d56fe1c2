-- `deal::deal_accepted` meets its contract: call by call, as proofs/Accepting says.
use Rattle.std.proofs.Common.{◌≡◌, ◌∙◌, ap}
use Rattle.spec.specs.Deal.{max_dealt}
use Rattle.rounds.specs.OnTable.{dealing, rounds_on}
use Rattle.deal.proofs.Accepting.{first, first_is, deals}
use Rattle.deal.proofs.deal_accepted.Goals.{After-rounds-n}
use Rattle.deal.proofs.deal_accepted.Goals as goal

-- the turns are dealt
ended
    : (c : After-rounds-n)
    → dealing c.rounds-n.new.rows c.rounds-n.new.out c.rounds-n.new.work c.rounds-n.result
    ≡ rounds_on c.args.reader.header c.args.reader.job.now max_dealt
    (first c.args.reader.header c.args.reader.job.now c.args.out.now c.args.rows.now c.args.work.now)
ended c =
    let a = c.args in
    let r = a.reader in
    c.rounds-n.ensures
    ∙ ap (rounds_on r.header r.job.now max_dealt)
    (first_is r.header r.job.now a.out.now a.rows.now a.work.now c.start.ensures.rows c.start.ensures.work)

pub start-requires : goal.start-requires
start-requires c = (deals c.requires c.args.reader.header c.args.reader.heads.counts).start

pub rounds-n-requires : goal.rounds-n-requires
rounds-n-requires c =
    let a = c.args in
    let r = a.reader in
    rw (first_is r.header r.job.now a.out.now a.rows.now a.work.now c.start.ensures.rows c.start.ensures.work)
    (deals c.requires r.header r.heads.counts).rounds

pub write_job-requires : goal.write_job-requires
write_job-requires c =
    let r = c.args.reader in
    (deals c.requires r.header r.heads.counts).close _ (ended (goal.at.write_job-requires c).After-rounds-n)

pub returns : goal.returns
returns c =
    let r = c.args.reader in
    let n = c.rounds-n in
    (deals c.requires r.header r.heads.counts).all
    (dealing n.new.rows n.new.out n.new.work n.result)
    (ended (goal.at.returns c).After-rounds-n)
    (n.auto.rows ∙ c.start.auto.rows)
    (n.auto.work ∙ c.start.auto.work)
    c.clear.ensures
    c.write_job.ensures
