use Rattle.std.proofs.Common.{◌≡◌, ◌++◌, ◌∷◌, ◌∙◌, [], IsTrue, inr, rules, sym, ap, subst}
use Rattle.glacier_disk.specs.Told.{Listener}
use Rattle.std.specs.Prelude.{None}
use Rattle.glacier_store.specs.Quotas.{over_quota}
use Rattle.glacier_cli.specs.Forms.{serve_words}
use Rattle.glacier_cli.specs.Program.{FolderEnds}
use Rattle.glacier_cli.specs.StationUse.{OpensAll, station_use}
use Rattle.glacier_cli.proofs.FolderLemmas.{serves_at, fault_ends, opens_all, still_kept}
use Rattle.glacier_cli.proofs.StationLemmas.{Before, before_begin, before_listen, none_came, served_on}
use Rattle.glacier_cli.proofs.serve.serve_folder.Goals as goal

pub returns-in-Err-clause-headline : goal.returns-in-Err-clause-headline
returns-in-Err-clause-headline g c t =
    let alone = g.met.S.Disk.by_disk_keeps c.args.station.now c.begin.new.disk c.begin.ensures.alone in
    none_came g.S.Disk.tells c.args.ring (serve_words c.args.serving.now)
    (before_begin (g.met.S.Disk.lawful t c.args.station.now) alone (c.begin.ensures.begins t))

pub returns-then-is_err-clause-headline : goal.returns-then-is_err-clause-headline
returns-then-is_err-clause-headline g c t =
    let alone = g.met.S.Disk.by_disk_keeps c.args.station.now c.begin.new.disk c.begin.ensures.alone in
    none_came g.S.Disk.tells c.args.ring (serve_words c.args.serving.now)
    (before_listen (before_begin (g.met.S.Disk.lawful t c.args.station.now) alone (c.begin.ensures.begins t)) c.listen.ensures.call)

pub returns-in-Ok-serve-clause-ends : goal.returns-in-Ok-serve-clause-ends
returns-in-Ok-serve-clause-ends g c =
    let within : over_quota c.args.ring c.in-Ok.store.accounts ≡ None = sym c.first_over.ensures ∙ c.in_default.is in
    let old = g.S.Disk.told c.args.station.now in
    let mid = g.S.Disk.told c.begin.new.disk in
    let listened = g.S.Disk.told c.listen.new.self in
    let words = serve_words c.args.serving.now in
    let call = c.listen.ensures.call in
    let alone = g.met.S.Disk.by_disk_keeps c.args.station.now c.begin.new.disk c.begin.ensures.alone in
    let faults : listened.listener.faults ≡ mid.listener.faults = search rules in
    let named : IsTrue g.S.Disk.tells → listened.listener.addresses ≡ mid.listener.addresses ++ words.address ∷ [] =
    λ t. search rules in
    let before : IsTrue g.S.Disk.tells → Before words.is_new old listened = λ t. before_listen (before_begin (g.met.S.Disk.lawful t c.args.station.now) alone (c.in-Ok.ensures.begins t)) call in
    let opens : IsTrue g.S.Disk.tells → OpensAll (station_use g.S.Disk.tells old (g.S.Disk.told c.serve.new.station)) words = λ t. opens_all g.S.Disk.tells words (c.in-Ok.ensures.begins t).opens alone.listener call.disk (named t) c.serve.ensures.kept in
    let shows = c.in-Ok-serve.ensures.fault in (
      c.in-Ok-serve.ensures.most,
      record {
        disk = shows.1 ∙ call.disk.faults ∙ c.in-Ok.ensures.counts;
        listener = shows.0 ∙ faults ∙ ap (λ (l : Listener). l.faults) alone.listener;
      },
      λ t. serves_at g.S.Disk.tells c.args.ring words c.in-Ok.store (before t) (c.in-Ok.ensures.begins t).starts within
          (λ state from. still_kept call.disk.rests.crash ((c.in-Ok.ensures.begins t).kept state from)) c.config_of-config.ensures
          (opens t) (c.in-Ok-serve.ensures.served t) (c.in-Ok-serve.ensures.came t),
    )

pub returns-in-Ok-serve-clause-headline : goal.returns-in-Ok-serve-clause-headline
returns-in-Ok-serve-clause-headline g c t =
    let within : over_quota c.args.ring c.in-Ok.store.accounts ≡ None = sym c.first_over.ensures ∙ c.in_default.is in
    let old = g.S.Disk.told c.args.station.now in
    let mid = g.S.Disk.told c.begin.new.disk in
    let listened = g.S.Disk.told c.listen.new.self in
    let words = serve_words c.args.serving.now in
    let call = c.listen.ensures.call in
    let alone = g.met.S.Disk.by_disk_keeps c.args.station.now c.begin.new.disk c.begin.ensures.alone in
    let begins = c.in-Ok.ensures.begins t in
    served_on g.S.Disk.tells c.args.ring words (before_listen (before_begin (g.met.S.Disk.lawful t c.args.station.now) alone begins) call)
    c.in-Ok.store begins.starts within c.config_of-config.ensures (λ state from. c.serve.ensures.headline t state (still_kept call.disk.rests.crash (begins.kept state from)))

pub returns-clause-ends : goal.returns-clause-ends
returns-clause-ends g c =
    let within : over_quota c.args.ring c.in-Ok.store.accounts ≡ None = sym c.first_over.ensures ∙ c.in_default.is in
    let old = g.S.Disk.told c.args.station.now in
    let mid = g.S.Disk.told c.begin.new.disk in
    let listened = g.S.Disk.told c.listen.new.self in
    let words = serve_words c.args.serving.now in
    let call = c.listen.ensures.call in
    let alone = g.met.S.Disk.by_disk_keeps c.args.station.now c.begin.new.disk c.begin.ensures.alone in
    let faults : listened.listener.faults ≡ mid.listener.faults = search rules in
    let named : IsTrue g.S.Disk.tells → listened.listener.addresses ≡ mid.listener.addresses ++ words.address ∷ [] =
    λ t. search rules in
    let before : IsTrue g.S.Disk.tells → Before words.is_new old listened = λ t. before_listen (before_begin (g.met.S.Disk.lawful t c.args.station.now) alone (c.in-Ok.ensures.begins t)) call in
    let opens : IsTrue g.S.Disk.tells → OpensAll (station_use g.S.Disk.tells old (g.S.Disk.told c.serve.new.station)) words = λ t. opens_all g.S.Disk.tells words (c.in-Ok.ensures.begins t).opens alone.listener call.disk (named t) c.serve.ensures.kept in
    subst (FolderEnds (station_use g.S.Disk.tells old (g.S.Disk.told c.serve.new.station)) c.args.ring words) (sym c.server_ending.ensures)
    (fault_ends g.S.Disk.tells c.args.ring words c.in-Ok.store c.in-Err-serve.fault c.config_of-config.ensures
    before (λ t. (c.in-Ok.ensures.begins t).starts) within
    (λ t state from. still_kept call.disk.rests.crash ((c.in-Ok.ensures.begins t).kept state from)) (call.disk.faults ∙ c.in-Ok.ensures.counts) (faults ∙ ap (λ (l : Listener). l.faults) alone.listener)
    opens c.in-Err-serve.ensures.broken c.in-Err-serve.ensures.came c.in-Err-serve.ensures.fault)

pub returns-clause-headline : goal.returns-clause-headline
returns-clause-headline g c t =
    let within : over_quota c.args.ring c.in-Ok.store.accounts ≡ None = sym c.first_over.ensures ∙ c.in_default.is in
    let old = g.S.Disk.told c.args.station.now in
    let mid = g.S.Disk.told c.begin.new.disk in
    let listened = g.S.Disk.told c.listen.new.self in
    let words = serve_words c.args.serving.now in
    let call = c.listen.ensures.call in
    let alone = g.met.S.Disk.by_disk_keeps c.args.station.now c.begin.new.disk c.begin.ensures.alone in
    let begins = c.in-Ok.ensures.begins t in
    served_on g.S.Disk.tells c.args.ring words (before_listen (before_begin (g.met.S.Disk.lawful t c.args.station.now) alone begins) call)
    c.in-Ok.store begins.starts within c.config_of-config.ensures (λ state from. c.serve.ensures.headline t state (still_kept call.disk.rests.crash (begins.kept state from)))

pub returns-in-Some-clause-ends : goal.returns-in-Some-clause-ends
returns-in-Some-clause-ends g c =
    let alone = g.met.S.Disk.by_disk_keeps c.args.station.now c.begin.new.disk c.begin.ensures.alone in (
      record { disk = c.in-Ok.ensures.counts; listener = ap (λ (l : Listener). l.faults) alone.listener },
      λ t. record {
        opens = record {
          folder = inr (c.in-Ok.ensures.begins t).opens;
          address = ap (λ (l : Listener). l.addresses) alone.listener;
        };
        none = record { connections = alone.connections; readings = alone.readings };
        store = c.in-Ok.store;
        starts = (c.in-Ok.ensures.begins t).starts;
        first = sym c.first_over.ensures ∙ c.in-Some.is;
      },
    )

pub returns-in-Some-clause-headline : goal.returns-in-Some-clause-headline
returns-in-Some-clause-headline g c t =
    let alone = g.met.S.Disk.by_disk_keeps c.args.station.now c.begin.new.disk c.begin.ensures.alone in
    none_came g.S.Disk.tells c.args.ring (serve_words c.args.serving.now)
    (before_begin (g.met.S.Disk.lawful t c.args.station.now) alone (c.begin.ensures.begins t))
