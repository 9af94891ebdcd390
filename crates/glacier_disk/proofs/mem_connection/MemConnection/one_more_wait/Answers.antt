use Rattle.std.proofs.Common.{rules, ◌≡◌, [], ◌∷◌, ◌++◌, ◌∙◌, sym, ap, min, length}
use Rattle.glacier_disk.specs.Network.{Wait}
use Rattle.glacier_disk.proofs.MemConnectionLemmas.{wait-is}
use Rattle.glacier_disk.proofs.mem_connection.MemConnection.one_more_wait.Goals as goal

pub returns : goal.returns
returns c =
    let connection = c.args.self.now in
    let taken : c.min-taken.result ≡ min connection.taken (length connection.input) = search rules in
    let sent : c.len.result ≡ length connection.sent.items = search rules in
    c.and.ensures ∙ ap (λ (w : Wait). connection.waits.items ++ w ∷ []) (sym (wait-is connection c.min-taken.result c.len.result taken sent))
