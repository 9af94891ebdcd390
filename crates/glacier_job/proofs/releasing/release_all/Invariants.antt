use Rattle.std.proofs.Common.{◌≡◌, ◌+◌, ◌++◌}
use Rattle.std.specs.Prelude.{sum_by}
use Rattle.std.specs.FinMap as map
use Rattle.std.specs.List.{flat_map}
use Rattle.glacier_vault.specs.Named.{blobs_of}
use Rattle.glacier_job.specs.Pass.{dropped, freed, room_in, ended_in}
use Rattle.glacier_job.proofs.releasing.release_all.Given as goal

abbrev pub invariant-loop-vault : goal.invariant-loop-vault
invariant-loop-vault l = record {
  blobs : l.released.blobs ++ flat_map (λ vault. blobs_of (dropped l.m vault)) l.vault-iterator ≡ freed l.m l.state;
  room : l.released.room + sum_by (room_in l.m) l.vault-iterator ≡ sum_by (room_in l.m) (map.values l.state.vaults);
  jobs : l.released.jobs + sum_by (ended_in l.m) l.vault-iterator ≡ sum_by (ended_in l.m) (map.values l.state.vaults);
}
