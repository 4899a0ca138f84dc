use Rattle.config_tables.proofs.route_rows.check_route.Goals as goal

pub returns : goal.returns
returns c = rw c.target_key.ensures at c.check_all.ensures
