use Rattle.glacier_inventory.proofs.JsonTexts.{inventory_written}
use Rattle.glacier_inventory.proofs.as_json.json_text.Goals as goal

pub returns : goal.returns
returns c =
    let a = c.args in
    rw (c.in_ok-push.ensures.ok, c.in_ok-extend_from_slice-4.ensures.ok, c.bytes-2.ensures, c.in_ok-quoted_text.ensures, c.deref.ensures, c.in_ok-name.ensures, c.in_ok-extend_from_slice-3.ensures.ok, c.in_ok-extend_from_slice-2.ensures.ok, c.bytes.ensures, c.in_ok-quoted_date.ensures, c.in_ok-extend_from_slice.ensures.ok, c.in_ok-put_lines.ensures, c.as_slice.ensures, c.in_ok-text.ensures)
    (inventory_written a.region.now a.account.now a.vault.now a.date a.lines.now)
