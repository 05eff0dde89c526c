mod Parties
