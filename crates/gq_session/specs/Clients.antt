-- What contracts see of a client.
use Rattle.gq_session.specs.Works.{Home, Work}
use Rattle.gq_session.specs.declared.client.Client.{Client}

abbrev pub home_of : Client → Home
home_of client = record { grid = client.grid; tenant = client.tenant; number = client.session; volumes = client.volumes.items }

abbrev pub work_of : Client → Work
work_of client = record { begun = client.op; round = client.round; last = client.floor; operation = client.current }
