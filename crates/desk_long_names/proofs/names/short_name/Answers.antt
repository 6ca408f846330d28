use Rattle.std.proofs.Common.{◌≡◌, ◌++◌, codes, length, take, string_bytes, ap, ◌∙◌, rules}
use Rattle.hex.specs.Hex.{encode_lower}
use Rattle.desk_long_names.proofs.ShortNames.{short_length}
use Rattle.desk_long_names.proofs.names.short_name.Goals as goal

pub returns-clause-room : goal.returns-clause-room
returns-clause-room c =
    let whole : length c.digest_of.result.0 ≡ 32 = search rules in
    let name : string_bytes c.push_str-2.new.self ≡ codes ".migrate-" ++ encode_lower (take 16 c.digest_of.result.0) = search rules in
    ap length name ∙ short_length c.digest_of.result.0 whole
