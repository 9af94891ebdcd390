use Rattle.glacier_journal.proofs.CreateLemmas.{first_new, new_lists}
use Rattle.glacier_journal.proofs.create.write_first.Goals as goal

pub returns-clause-made : goal.returns-clause-made
returns-clause-made g c t none =
    first_new (g.D.Disk.told c.args.disk.now).reads (g.D.Disk.told c.write_synced.new.disk).reads (g.D.Disk.told c.write_synced-2.new.disk).reads
    none (c.in_ok-write_synced.ensures.written t) (c.in_ok-write_synced-2.ensures.written t)

pub returns-clause-listed : goal.returns-clause-listed
returns-clause-listed g c t none = new_lists (g.D.Disk.told c.write_synced-2.new.disk).reads (returns-clause-made g c t none)
